use Rattle.std.proofs.Common.{◌∙◌, subst}
use Rattle.gib_mono.specs.Sources.{globals_in}
use Rattle.gib_mono.specs.Searching.{Asks}
use Rattle.gib_mono.proofs.Finding.{function_copied, function_body}
use Rattle.gib_mono.proofs.find.ask_function_copy.Goals as goal

pub returns : goal.returns
returns c = λ f there.
    function_copied c.args.source.now c.args.search.now c.ask_function.new.search c.args.place c.function_decl-function.result.now f c.in_ok-variables.variables.items c.deref-2.result.now c.args.types.items there c.function_decl-function.ensures.at
    (c.in_ok-variables.ensures.items ∙ c.deref.ensures.value) c.deref-2.ensures.value
    (subst (λ k. Asks (globals_in c.args.source.now) (record { alloc = c.args.search.now.alloc; context = k; found = c.args.search.now.found; limit = c.args.search.now.limit }) c.ask_function.new.search (function_body c.args.source.now c.deref-2.result.now c.function_decl-function.result.now.result c.function_decl-function.result.now.body.0)) c.enter.ensures c.in_ok-ask_function.ensures)
