use Rattle.std.proofs.Common.{refl, sym, ap, ◌∙◌, length, Ok, subst}
use Rattle.std.proofs.lemmas.Result.{err_from_is_err_and}
use Rattle.gib_types.specs.Types.{forms_at, AreBelow}
use Rattle.gib_syntax.specs.Forms.{assign}
use Rattle.gib_syntax.specs.GenericParts.{function_in, results_in}
use Rattle.gib_check.specs.Judging.{forms, listed, meant_by, parts_in, ArePartsMet}
use Rattle.gib_check.proofs.Answering.{called_by, called_ok, results_are, parameters_are, meant_later}
use Rattle.gib_check.proofs.Growing.{keeps_advance, advances_on, parts_grow, parts_stay}
use Rattle.gib_check.proofs.Loops.{passed_on, along, meaning_more}
use Rattle.gib_check.proofs.uses.call_results.Goals as goal

pub returns-in_err-all_wanted-clause-read : goal.returns-in_err-all_wanted-clause-read
returns-in_err-all_wanted-clause-read c =
    let p = err_from_is_err_and c.from_residual-in_err-all_wanted.result c.from_residual-in_err-all_wanted.ensures.1 in
    rw (p.1, p.2)
    (along c.in_err-all_wanted.field-0.0 _ _ (called_by (function_in c.args.named.now.exprs c.args.function.now) (forms_at (forms c.args.state.now) c.args.types.now) (parts_in c.args.state.now c.args.parts.now) (parts_in c.parameter_types.new.state c.args.parts.now) (listed (forms c.parameter_types.new.state) c.deref-3.result.now) (parts_grow c.args.state.now c.parameter_types.new.state c.args.parts.now (keeps_advance c.args.state.now c.parameter_types.new.state c.in_ok-due.ensures.keeps) c.requires.parts) (ap (listed (forms c.parameter_types.new.state)) c.deref-3.ensures.value ∙ c.in_ok-due.ensures.types ∙ parameters_are c.args.named.now.exprs.words c.args.function.now.parameters.items c.deref-2.result.now (function_in c.args.named.now.exprs c.args.function.now).variables (meant_by (forms c.args.state.now) c.in_ok-meaning.meaning) (forms_at (forms c.args.state.now) c.args.types.now) (forms_at (forms c.args.state.now) c.args.types.now) c.deref-2.ensures.value (c.in_ok-meaning.ensures.meant ∙ ap (λ vs. assign vs (forms_at (forms c.args.state.now) c.args.types.now)) c.deref.ensures.value) refl))
    (passed_on c.in_err-all_wanted.field-0.0 _ _ c.in_err-all_wanted.ensures))

pub returns-clause-read : goal.returns-clause-read
returns-clause-read c =
    called_ok (function_in c.args.named.now.exprs c.args.function.now) (forms_at (forms c.args.state.now) c.args.types.now) (parts_in c.args.state.now c.args.parts.now) (parts_in c.parameter_types.new.state c.args.parts.now) (listed (forms c.parameter_types.new.state) c.deref-3.result.now) (parts_grow c.args.state.now c.parameter_types.new.state c.args.parts.now (keeps_advance c.args.state.now c.parameter_types.new.state c.in_ok-due.ensures.keeps) c.requires.parts) (ap (listed (forms c.parameter_types.new.state)) c.deref-3.ensures.value ∙ c.in_ok-due.ensures.types ∙ parameters_are c.args.named.now.exprs.words c.args.function.now.parameters.items c.deref-2.result.now (function_in c.args.named.now.exprs c.args.function.now).variables (meant_by (forms c.args.state.now) c.in_ok-meaning.meaning) (forms_at (forms c.args.state.now) c.args.types.now) (forms_at (forms c.args.state.now) c.args.types.now) c.deref-2.ensures.value (c.in_ok-meaning.ensures.meant ∙ ap (λ vs. assign vs (forms_at (forms c.args.state.now) c.args.types.now)) c.deref.ensures.value) refl) c.in_ok-all_wanted.ensures
    ∙ ap Ok (results_are c.result_types.new.state c.in_ok-results.results (meant_by (forms c.parameter_types.new.state) c.in_ok-meaning.meaning) _ (results_in c.args.named.now.exprs.words c.args.function.now.result) c.in_ok-results.ensures.forms
    (meant_later c.args.state.now c.parameter_types.new.state c.in_ok-meaning.meaning (function_in c.args.named.now.exprs c.args.function.now).variables c.deref.result.now c.args.types.now c.args.types.now (forms_at (forms c.args.state.now) c.args.types.now) c.in_ok-meaning.ensures.meant c.deref.ensures.value refl refl c.in_ok-due.ensures.keeps.grows c.in_ok-meaning.ensures.below))

pub all_wanted-requires-clause-parts : goal.all_wanted-requires-clause-parts
all_wanted-requires-clause-parts c = parts_stay c.args.state.now c.parameter_types.new.state c.args.parts.now (keeps_advance c.args.state.now c.parameter_types.new.state c.in_ok-due.ensures.keeps) c.requires.parts

pub all_wanted-requires-clause-due : goal.all_wanted-requires-clause-due
all_wanted-requires-clause-due c = subst (AreBelow (length c.parameter_types.new.state.types)) (sym c.deref-3.ensures.value) c.in_ok-due.ensures.below

pub result_types-requires : goal.result_types-requires
result_types-requires c = meaning_more (length c.args.state.now.types) (length c.parameter_types.new.state.types) c.in_ok-meaning.meaning c.in_ok-due.ensures.keeps.grows.longer c.in_ok-meaning.ensures.below

pub returns-clause-met : goal.returns-clause-met
returns-clause-met c = record { advances = advances_on c.args.state.now c.parameter_types.new.state c.result_types.new.state (keeps_advance c.args.state.now c.parameter_types.new.state c.in_ok-due.ensures.keeps) c.in_ok-results.ensures.met.advances; here = c.in_ok-results.ensures.met.here }

pub returns-clause-counts : goal.returns-clause-counts
returns-clause-counts c = c.in_ok-results.ensures.counts ∙ c.in_ok-due.ensures.keeps.counts

pub returns-clause-scope : goal.returns-clause-scope
returns-clause-scope c = c.in_ok-results.ensures.scope ∙ c.in_ok-due.ensures.keeps.scope
