use Rattle.std.proofs.Common.{length, sym, ap₂, ◌∙◌, subst, arith}
use Rattle.gib_types.specs.Types.{forms_of, forms_at, AreBelow, AreOnce}
use Rattle.gib_syntax.specs.GenericParts.{generic_program_of}
use Rattle.gib_mono.specs.declared.found.CopyKey.TheVariants as k
use Rattle.gib_mono.specs.Contexts.{forms}
use Rattle.gib_mono.specs.Sources.{globals_in}
use Rattle.gib_mono.specs.Walk.{data_asked}
use Rattle.gib_mono.proofs.Plains.{data_added, data_skipped, empty_items, some_items}
use Rattle.gib_mono.proofs.Seeking.{if_ok}
use Rattle.gib_mono.proofs.Sourcing.{data_variables, declarations}
use Rattle.gib_mono.proofs.find.add_plain_type.Goals as goal

pub returns : goal.returns
returns c = λ d done rest there good at.
    if_ok _ _ c.add.result (λ u adds. data_added (globals_in c.args.source.now) c.args.search.now c.add.new.search (k.Data c.args.place c.new.result) c.constructors_of-constructors.result _ d done rest
    (declarations (generic_program_of c.args.source.now) c.program-typed.ensures.typed) (subst (λ ns. AreOnce (forms_of ns)) c.types.ensures c.len-count.ensures.once)
    (subst (AreBelow (length (forms c.args.search.now.context))) (sym c.new.ensures.items) tt) (ap₂ (λ o is. data_asked o (forms_at (forms c.args.search.now.context) is)) there c.new.ensures.items)
    (data_variables c.args.source.now c.args.place c.data_decl-data.result.now d c.data_decl-data.ensures there ∙ empty_items _ c.data_decl-data.result.now.variables.items c.data_decl-data.result.now.variables.ok.0 (sym c.if-not-is_empty.ensures))
    (let e = c.constructors_of-constructors.ensures.count d there in omega (arith, e)) good at adds) c.add.ensures

pub returns-then-not-is_empty : goal.returns-then-not-is_empty
returns-then-not-is_empty c = λ d done rest there good at.
    data_skipped (globals_in c.args.source.now) c.args.search.now d done
    (λ e. some_items _ c.data_decl-data.result.now.variables.items c.data_decl-data.result.now.variables.ok.0 (sym c.if-not-is_empty.ensures) (sym (data_variables c.args.source.now c.args.place c.data_decl-data.result.now d c.data_decl-data.ensures there) ∙ e)) at
