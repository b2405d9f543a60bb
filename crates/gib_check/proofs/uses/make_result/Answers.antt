use Rattle.std.proofs.Common.{sym, ap, ◌∙◌, length, Ok, subst}
use Rattle.std.proofs.lemmas.Result.{err_from_is_err_and}
use Rattle.gib_types.specs.Form.{DataForm}
use Rattle.gib_types.specs.Types.{forms_at, AreBelow}
use Rattle.gib_syntax.specs.Results.{One}
use Rattle.gib_syntax.specs.GenericTyping.{field_forms}
use Rattle.gib_check.specs.NameViews.{row_in}
use Rattle.gib_check.specs.Judging.{forms, listed, parts_in}
use Rattle.gib_check.proofs.Answering.{made_by, made_ok}
use Rattle.gib_check.proofs.Growing.{below_more, forms_grow, keeps_advance, advances_on, parts_grow, parts_stay}
use Rattle.gib_check.proofs.Loops.{passed_on, along}
use Rattle.gib_check.proofs.uses.make_result.Goals as goal

pub row_fields-requires : goal.row_fields-requires
row_fields-requires c = subst (AreBelow (length c.args.state.now.types)) (sym c.deref.ensures.value) c.requires.types

pub returns-in_err-all_wanted-clause-read : goal.returns-in_err-all_wanted-clause-read
returns-in_err-all_wanted-clause-read c =
    let p = err_from_is_err_and c.from_residual-in_err-all_wanted.result c.from_residual-in_err-all_wanted.ensures.1 in
    rw (p.1, p.2)
    (along c.in_err-all_wanted.field-0.0 _ _ (made_by (row_in c.args.named.now c.args.row) (forms_at (forms c.args.state.now) c.args.types.items) (parts_in c.args.state.now c.args.parts.now) (parts_in c.row_fields.new.state c.args.parts.now) (listed (forms c.row_fields.new.state) c.deref-2.result.now) (parts_grow c.args.state.now c.row_fields.new.state c.args.parts.now (keeps_advance c.args.state.now c.row_fields.new.state c.row_fields.ensures.keeps) c.requires.parts) (ap (listed (forms c.row_fields.new.state)) c.deref-2.ensures.value ∙ c.in_ok-fields.ensures.types ∙ ap (λ is. field_forms (row_in c.args.named.now c.args.row) (forms_at (forms c.args.state.now) is)) c.deref.ensures.value))
    (passed_on c.in_err-all_wanted.field-0.0 _ _ c.in_err-all_wanted.ensures))

pub returns-clause-read : goal.returns-clause-read
returns-clause-read c =
    made_ok (row_in c.args.named.now c.args.row) (forms_at (forms c.args.state.now) c.args.types.items) (parts_in c.args.state.now c.args.parts.now) (parts_in c.row_fields.new.state c.args.parts.now) (listed (forms c.row_fields.new.state) c.deref-2.result.now) (parts_grow c.args.state.now c.row_fields.new.state c.args.parts.now (keeps_advance c.args.state.now c.row_fields.new.state c.row_fields.ensures.keeps) c.requires.parts) (ap (listed (forms c.row_fields.new.state)) c.deref-2.ensures.value ∙ c.in_ok-fields.ensures.types ∙ ap (λ is. field_forms (row_in c.args.named.now c.args.row) (forms_at (forms c.args.state.now) is)) c.deref.ensures.value) c.in_ok-all_wanted.ensures
    ∙ ap (λ f. Ok (One f)) (sym (c.in_ok-ty.ensures.met.form ∙ ap (DataForm c.args.row.owner.0) (forms_grow c.args.state.now.types c.row_fields.new.state.types c.args.types.items c.row_fields.ensures.keeps.grows c.requires.types)))

pub all_wanted-requires-clause-parts : goal.all_wanted-requires-clause-parts
all_wanted-requires-clause-parts c = parts_stay c.args.state.now c.row_fields.new.state c.args.parts.now (keeps_advance c.args.state.now c.row_fields.new.state c.row_fields.ensures.keeps) c.requires.parts

pub all_wanted-requires-clause-due : goal.all_wanted-requires-clause-due
all_wanted-requires-clause-due c = subst (AreBelow (length c.row_fields.new.state.types)) (sym c.deref-2.ensures.value) c.in_ok-fields.ensures.below

pub put-requires : goal.put-requires
put-requires c = below_more (length c.args.state.now.types) (length c.row_fields.new.state.types) c.args.types.items c.row_fields.ensures.keeps.grows.longer c.requires.types

pub returns-clause-met : goal.returns-clause-met
returns-clause-met c = record { advances = advances_on c.args.state.now c.row_fields.new.state c.put.new.self (keeps_advance c.args.state.now c.row_fields.new.state c.row_fields.ensures.keeps) (keeps_advance c.row_fields.new.state c.put.new.self c.put.ensures.keeps); here = c.in_ok-ty.ensures.met.below }

pub returns-clause-counts : goal.returns-clause-counts
returns-clause-counts c = c.put.ensures.keeps.counts ∙ c.row_fields.ensures.keeps.counts

pub returns-clause-scope : goal.returns-clause-scope
returns-clause-scope c = c.put.ensures.keeps.scope ∙ c.row_fields.ensures.keeps.scope
