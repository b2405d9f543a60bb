use Rattle.gib_check.proofs.States.{type_found, type_below, type_missing}
use Rattle.gib_check.proofs.state.State.type_of.Goals as goal

pub returns-in-Some-clause-read : goal.returns-in-Some-clause-read
returns-in-Some-clause-read c = type_found c.args.self.now c.self.inside.types c.self.inside.parts.items c.self.inside.scope c.self.inside.counts c.args.x c.find.result c.in-Some.ty c.self.view_is c.find.ensures c.in-Some.is

pub returns-in-Some-clause-below : goal.returns-in-Some-clause-below
returns-in-Some-clause-below c = type_below c.args.self.now c.self.inside.types c.self.inside.parts.items c.self.inside.scope c.self.inside.counts c.args.x.name.0 c.find.result c.in-Some.ty c.self.view_is c.self.invariant c.find.ensures c.in-Some.is

pub returns-in-None-clause-read : goal.returns-in-None-clause-read
returns-in-None-clause-read c = rw c.broken.ensures (type_missing c.args.self.now c.self.inside.types c.self.inside.parts.items c.self.inside.scope c.self.inside.counts c.args.x c.find.result c.self.view_is c.find.ensures c.in-None.is)
