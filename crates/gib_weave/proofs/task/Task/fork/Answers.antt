use Rattle.std.specs.Prelude.{slice_get}
use Rattle.gib_machine.specs.Starting.{waiting_of}
use Rattle.gib_weave.proofs.Narrow.{left_narrow}
use Rattle.gib_weave.proofs.task.Task.fork.Goals as goal

pub invariant_of-self-in-Ok-push : goal.invariant_of-self-in-Ok-push
invariant_of-self-in-Ok-push c =
    left_narrow c.self.inside.machine c.left.new.self (slice_get c.args.code.now.instructions c.self.inside.machine.ip) (waiting_of c.in-Ok.side) c.self.inside.sides c.push.new.self c.left.ensures c.in-Ok-push.ensures.pushed c.in-Ok.ensures.fits c.self.invariant
