use Rattle.gib_weave.proofs.Narrow.{take_narrow}
use Rattle.gib_weave.proofs.task.Task.take.Goals as goal

pub invariant_of-self : goal.invariant_of-self
invariant_of-self c = take_narrow c.self.inside.machine c.take.new.self c.self.inside.sides c.pop.new.self c.take.ensures c.pop.ensures c.self.invariant
