use Rattle.std.proofs.Common.{length, sym, ◌∙◌, subst}
use Rattle.gib_types.specs.Types.{forms_at, AreBelow}
use Rattle.gib_mono.specs.Contexts.{forms}
use Rattle.gib_mono.specs.Searching.{AsksAll}
use Rattle.gib_mono.specs.Sources.{globals_in}
use Rattle.gib_mono.specs.Walk.{FunctionOf, copy_asks}
use Rattle.gib_mono.proofs.Plains.{function_asks_all, function_asks_none, empty_items, some_items}
use Rattle.gib_mono.proofs.Seeking.{if_ok}
use Rattle.gib_mono.proofs.Sourcing.{function_variables}
use Rattle.gib_mono.proofs.find.ask_plain_function.Goals as goal

pub ask_function_copy-requires-clause-below : goal.ask_function_copy-requires-clause-below
ask_function_copy-requires-clause-below c = subst (AreBelow (length c.args.search.now.context.types)) (sym c.new-types.ensures.items) tt

pub returns : goal.returns
returns c = λ d there.
    if_ok _ _ c.ask_function_copy.result (λ u a. function_asks_all (globals_in c.args.source.now) c.args.search.now c.ask_function_copy.new.search d
    (function_variables c.args.source.now c.args.place c.function_decl-function.result.now d c.function_decl-function.ensures.at there ∙ empty_items _ c.function_decl-function.result.now.variables.items c.function_decl-function.result.now.variables.ok.0 (sym c.if-not-is_empty.ensures))
    (subst (λ is. AsksAll (globals_in c.args.source.now) c.args.search.now c.ask_function_copy.new.search (copy_asks (globals_in c.args.source.now).rows (FunctionOf d (forms_at (forms c.args.search.now.context) is)))) c.new-types.ensures.items a)) (c.ask_function_copy.ensures d there)

pub returns-then-not-is_empty : goal.returns-then-not-is_empty
returns-then-not-is_empty c = λ d there.
    function_asks_none (globals_in c.args.source.now) c.args.search.now d
    (λ e. some_items _ c.function_decl-function.result.now.variables.items c.function_decl-function.result.now.variables.ok.0 (sym c.if-not-is_empty.ensures) (sym (function_variables c.args.source.now c.args.place c.function_decl-function.result.now d c.function_decl-function.ensures.at there) ∙ e))
