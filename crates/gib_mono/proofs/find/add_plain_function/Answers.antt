use Rattle.std.proofs.Common.{length, sym, ap₂, ◌∙◌, subst}
use Rattle.gib_types.specs.Types.{forms_of, forms_at, AreBelow, AreOnce}
use Rattle.gib_syntax.specs.GenericParts.{generic_program_of}
use Rattle.gib_mono.specs.declared.found.CopyKey.TheVariants as k
use Rattle.gib_mono.specs.Contexts.{forms}
use Rattle.gib_mono.specs.Sources.{globals_in}
use Rattle.gib_mono.specs.Walk.{function_asked}
use Rattle.gib_mono.proofs.Plains.{function_added, function_skipped, empty_items, some_items}
use Rattle.gib_mono.proofs.Seeking.{if_ok}
use Rattle.gib_mono.proofs.Sourcing.{function_variables, declarations}
use Rattle.gib_mono.proofs.find.add_plain_function.Goals as goal

pub returns : goal.returns
returns c = λ f done rest there good at.
    if_ok _ _ c.add.result (λ u adds. function_added (globals_in c.args.source.now) c.args.search.now c.add.new.search (k.Function c.args.place c.new.result) _ f done rest
    (declarations (generic_program_of c.args.source.now) c.program-typed.ensures.typed) (subst (λ ns. AreOnce (forms_of ns)) c.types.ensures c.len-count.ensures.once)
    (subst (AreBelow (length (forms c.args.search.now.context))) (sym c.new.ensures.items) tt) (ap₂ (λ o is. function_asked o (forms_at (forms c.args.search.now.context) is)) there c.new.ensures.items)
    (function_variables c.args.source.now c.args.place c.function_decl-function.result.now f c.function_decl-function.ensures.at there ∙ empty_items _ c.function_decl-function.result.now.variables.items c.function_decl-function.result.now.variables.ok.0 (sym c.if-not-is_empty.ensures))
    good at adds) c.add.ensures

pub returns-then-not-is_empty : goal.returns-then-not-is_empty
returns-then-not-is_empty c = λ f done rest there good at.
    function_skipped (globals_in c.args.source.now) c.args.search.now f done
    (λ e. some_items _ c.function_decl-function.result.now.variables.items c.function_decl-function.result.now.variables.ok.0 (sym c.if-not-is_empty.ensures) (sym (function_variables c.args.source.now c.args.place c.function_decl-function.result.now f c.function_decl-function.ensures.at there) ∙ e)) at
