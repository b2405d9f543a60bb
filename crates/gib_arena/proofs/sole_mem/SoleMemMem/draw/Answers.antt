use Rattle.gib_arena.proofs.Showing.{drew_alone}
use Rattle.gib_arena.proofs.sole_mem.SoleMemMem.draw.Goals as goal

pub returns-clause-some : goal.returns-clause-some
returns-clause-some c = drew_alone c.args.self.now.pass.seat.table_id _ _ _ c.args.self.now.pass.sound c.draw.ensures.some c.draw.ensures.order
