use Rattle.gib_weave.proofs.Narrow.{join_narrow}
use Rattle.gib_weave.proofs.task.Task.join.Goals as goal

pub invariant_of-self : goal.invariant_of-self
invariant_of-self c = join_narrow c.self.inside.machine c.join.new.self c.args.answer c.self.inside.sides c.pop.new.self c.join.ensures c.pop.ensures c.self.invariant
