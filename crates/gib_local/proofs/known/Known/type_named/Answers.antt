use Rattle.gib_local.proofs.HeadNames.{type_there, type_missing}
use Rattle.gib_local.proofs.known.Known.type_named.Goals as goal

pub returns-in-Some-clause-written : goal.returns-in-Some-clause-written
returns-in-Some-clause-written c =
    type_there c.self.inside.text c.args.self.now c.self.inside.types c.args.ty c.in-Declared.x c.place.result c.in-Some.field-0 c.self.view_is c.self.invariant.types_are c.in-Declared.is c.place.ensures.place c.in-Some.is

pub returns-in-None-clause-written : goal.returns-in-None-clause-written
returns-in-None-clause-written c =
    rw c.broken.ensures
    (type_missing c.self.inside.text c.args.self.now c.self.inside.types c.args.ty c.in-Declared.x c.place.result c.self.view_is c.self.invariant.types_are c.in-Declared.is c.place.ensures.place c.in-None.is)
