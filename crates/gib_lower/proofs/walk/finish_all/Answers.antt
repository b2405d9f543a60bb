use Rattle.std.proofs.Common.{arith}
use Rattle.gib_lower.proofs.PartMoves.{done_next}
use Rattle.gib_lower.proofs.walk.finish_all.Goals as goal

pub slots-preserved : goal.slots-preserved
slots-preserved c = (omega arith, done_next c.args.slots.now c.slots.i c.slots.out c.put.new.self _ (omega arith) c.slots.invariant.1 c.in_ok-put.ensures)
