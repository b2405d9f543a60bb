use Rattle.std.proofs.Common.{◌∙◌, ap}
use Rattle.gib_syntax.specs.Parts.{Parts}
use Rattle.gib_plain.specs.Running.{code_of}
use Rattle.gib_plain.specs.Told.{told}
use Rattle.gib_plain.proofs.Steps.{run_whole}
use Rattle.gib_plain.proofs.machine.plain.Goals as goal

pub returns : goal.returns
returns c =
    run_whole c.args.typed.now c.main-main.result c.args.depth c.args.value (told c.into_outcome.result) c.in_ok-machine.machine c.steps.machine (c.into_outcome.ensures (code_of c.args.typed.now)) c.steps.invariant c.in_ok-machine.ensures
    (c.main-main.ensures.value ∙ ap (λ (p : Parts). p.main) c.program.ensures.value)
