use Rattle.std.proofs.Common.{ap, ◌∙◌}
use Rattle.std.proofs.lemmas.Result.{IfOk-weaker}
use Rattle.gib_core.specs.LoweredParts.{LoweredParts}
use Rattle.gib_core.specs.Parts.{core_of}
use Rattle.gib_machine.specs.State.{State}
use Rattle.gib_machine.specs.Stepping.{with_tails}
use Rattle.gib_weave.specs.Running.{word_of}
use Rattle.gib_weave.specs.Starting.{root_start}
use Rattle.gib_pool.proofs.run.root_workspace.Goals as goal

pub returns-clause-machine : goal.returns-clause-machine
returns-clause-machine c = IfOk-weaker c.of.result _ _ (λ w e tails.
    ap (λ (s : State). with_tails s tails) e ∙ (c.in_ok-machine.ensures tails
    ∙ ap (λ (l : LoweredParts). root_start (core_of l.core) l.code (word_of c.args.root) c.args.config.depth c.args.config.forks tails) c.lowered.ensures)) c.of.ensures.machine
