use Rattle.std.proofs.Common.{arith, ap}
use Rattle.gib_arena.proofs.Reading.{byte_in}
use Rattle.gib_arena.proofs.sole_mem.SoleMemMem.get.Goals as goal

pub returns-clause-below : goal.returns-clause-below
returns-clause-below c = let m = c.args.self.now in let p = m.pass in let w = ap (λ z. z.words) m.of in let k = byte_in _ _ p.sound c.args.at c.requires.0 c.requires.1 in let s = p.sized in let t = m.arena.sized in let l = m.arena.small in omega arith
