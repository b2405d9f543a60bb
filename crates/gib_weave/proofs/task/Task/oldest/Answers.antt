use Rattle.std.proofs.Common.{ap, ◌∙◌}
use Rattle.gib_machine.specs.Starting.{waiting_of}
use Rattle.gib_weave.specs.Weave.{Task}
use Rattle.gib_weave.proofs.Narrow.{oldest_fits}
use Rattle.gib_weave.proofs.task.Task.oldest.Goals as goal

pub of_side-requires : goal.of_side-requires
of_side-requires c = oldest_fits c.args.code.now c.self.inside.machine.width (waiting_of c.oldest.result.now) c.self.inside.sides c.oldest.ensures c.self.invariant (ap (λ (t : Task). t.state.width) c.self.view_is ∙ c.requires.width)
