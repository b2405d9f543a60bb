use Rattle.std.proofs.Common.{sym, subst}
use Rattle.std.proofs.lemmas.Result.{IfErr-weaker}
use Rattle.gib_syntax.specs.Parts.{program_of}
use Rattle.gib_app.specs.declared.stop.Stop.{Stop}
use Rattle.gib_app.specs.Stops.{IsRunStop}
use Rattle.gib_app.proofs.jobs.trace.trace.Goals as goal

pub left_of-requires-clause-traced : goal.left_of-requires-clause-traced
left_of-requires-clause-traced g c = (program_of c.args.request.compiled.now.typed, c.args.request.options, c.args.request.input.now, c.in-Ok.ensures.ends, c.in-Ok.ensures.laid)

pub returns-in-Ok-clause-made : goal.returns-in-Ok-clause-made
returns-in-Ok-clause-made g c = c.left_of.ensures.made (program_of c.args.request.compiled.now.typed) c.args.request.options c.args.request.input.now c.in-Ok.ensures.ends c.in-Ok.ensures.laid

pub returns-in-Ok-clause-stop : goal.returns-in-Ok-clause-stop
returns-in-Ok-clause-stop g c =
    let P : Stop → Type 0 = IsRunStop (program_of c.args.request.compiled.now.typed) c.args.request.compiled.now.names c.args.request.input.now in
    IfErr-weaker c.left_of.result _ _ (λ stop is. subst P (sym is) tt) c.left_of.ensures.memory
