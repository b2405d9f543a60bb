use Rattle.gib_arena.specs.CellLaws.{bounded}
use Rattle.gib_arena.proofs.Ones.{few}
use Rattle.gib_arena.proofs.memory.Pass.is_bounded.Goals as goal

pub returns-clause-above : goal.returns-clause-above
returns-clause-above c = let p = c.args.self.now in λ q l. bounded p.seat.me.0.branch.limit p.seat.me.0.holding p.sound q l

pub returns-clause-share : goal.returns-clause-share
returns-clause-share c = let p = c.args.self.now in let h = p.seat.me.0.holding in few h.seen h.chunks p.sound.once p.sound.own_seen
