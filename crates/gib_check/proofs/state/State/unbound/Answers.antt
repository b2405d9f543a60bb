use Rattle.gib_check.proofs.States.{name_twice, name_new}
use Rattle.gib_check.proofs.state.State.unbound.Goals as goal

pub returns-in-Some : goal.returns-in-Some
returns-in-Some c = rw c.broken.ensures (name_twice c.args.self.now c.self.inside.types c.self.inside.parts.items c.self.inside.scope c.self.inside.counts c.args.x c.find.result c.in-Some.field-0 c.self.view_is c.find.ensures c.in-Some.is)

pub returns-in-None : goal.returns-in-None
returns-in-None c = name_new c.args.self.now c.self.inside.types c.self.inside.parts.items c.self.inside.scope c.self.inside.counts c.args.x c.find.result c.self.view_is c.find.ensures c.in-None.is
