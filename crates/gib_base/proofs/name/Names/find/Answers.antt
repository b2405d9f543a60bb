use Rattle.gib_base.proofs.Held.{IsHeldAt, found_in, absent_in}
use Rattle.gib_base.proofs.name.Names.find.Goals as goal

found : (c : goal.In-Some) → IsHeldAt c.args.self.now c.args.text.now c.in-Some.index
found c = found_in c.self.inside.set.keys c.args.self.now c.args.text.now c.in-Some.index c.self.view_is c.in-Some.ensures.index

pub returns-in-Some-clause-number : goal.returns-in-Some-clause-number
returns-in-Some-clause-number c = (found c).number

pub returns-in-Some-clause-held : goal.returns-in-Some-clause-held
returns-in-Some-clause-held c = (found c).held

pub returns-in-None-clause-absent : goal.returns-in-None-clause-absent
returns-in-None-clause-absent c = absent_in c.self.inside.set.keys c.args.self.now c.args.text.now c.self.view_is c.in-None.ensures.index
