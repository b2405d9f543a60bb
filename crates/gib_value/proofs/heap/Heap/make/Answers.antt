use Rattle.gib_value.proofs.HeapMakes.{makes}
use Rattle.gib_value.proofs.heap.Heap.make.Goals as goal

pub invariant_of-self : goal.invariant_of-self
invariant_of-self c = (makes c.args.con _ _ _ _ _ c.self.view_is c.self.invariant c.requires.within c.push_con.ensures).invariant

pub returns-clause-kept : goal.returns-clause-kept
returns-clause-kept c = (makes c.args.con _ _ _ _ _ c.self.view_is c.self.invariant c.requires.within c.push_con.ensures).kept

pub returns-clause-within : goal.returns-clause-within
returns-clause-within c = (makes c.args.con _ _ _ _ _ c.self.view_is c.self.invariant c.requires.within c.push_con.ensures).within

pub returns-clause-made : goal.returns-clause-made
returns-clause-made c = (makes c.args.con _ _ _ _ _ c.self.view_is c.self.invariant c.requires.within c.push_con.ensures).made

pub returns-clause-refused : goal.returns-clause-refused
returns-clause-refused c = (makes c.args.con _ _ _ _ _ c.self.view_is c.self.invariant c.requires.within c.push_con.ensures).refused
