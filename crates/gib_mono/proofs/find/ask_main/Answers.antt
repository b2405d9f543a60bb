use Rattle.std.proofs.Common.{[], ◌∷◌, length, refl, sym, ap, ◌∙◌, subst}
use Rattle.gib_types.specs.Types.{AreBelow}
use Rattle.gib_syntax.specs.declared.written.ResultRuns.TheVariants as result
use Rattle.gib_mono.specs.Searching.{Asks}
use Rattle.gib_mono.specs.Sources.{globals_in}
use Rattle.gib_mono.proofs.Finding.{main_copied, function_body}
use Rattle.gib_mono.proofs.find.ask_main.Goals as goal

pub enter-requires : goal.enter-requires
enter-requires c = subst (AreBelow (length c.args.search.now.context.types)) (sym c.new-2.ensures.items) tt

pub returns : goal.returns
returns c =
    main_copied c.args.source.now c.args.search.now c.ask_function.new.search c.new.result.items c.new-2.result.items c.main-main.result (c.main-main.result.parameter ∷ []) c.new.ensures.items c.new-2.ensures.items
    (c.main-main.ensures.value ∙ ap (λ p. p.main) c.program.ensures.value) refl
    (subst (λ k. Asks (globals_in c.args.source.now) (record { alloc = c.args.search.now.alloc; context = k; found = c.args.search.now.found; limit = c.args.search.now.limit }) c.ask_function.new.search
    (function_body c.args.source.now (c.main-main.result.parameter ∷ []) (result.One c.main-main.result.result) c.main-main.result.body.0)) c.enter.ensures c.in_ok-ask_function.ensures)
