use Rattle.std.proofs.Common.{sym, subst}
use Rattle.gib_weave.specs.Weave.{Task, HasWaiting}
use Rattle.gib_weave.proofs.Narrow.{begun_narrow}
use Rattle.gib_weave.proofs.task.Task.begin_oldest.Goals as goal

pub invariant_of-self : goal.invariant_of-self
invariant_of-self c = begun_narrow c.args.number c.self.inside.machine.width c.self.inside.sides c.begin_oldest.new.self (subst (λ (t : Task). HasWaiting t.sides) (sym c.self.view_is) c.requires) c.begin_oldest.ensures c.self.invariant
