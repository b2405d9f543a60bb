use Rattle.std.proofs.Common.{take}
use Rattle.gib_infer.proofs.Finding.{FindsIn}
use Rattle.gib_infer.proofs.work.find.Given as goal

abbrev pub invariant-loop-slot : goal.invariant-loop-slot
invariant-loop-slot l = FindsIn (take l.slot-index l.scope) l.name.0 l.atom l.ty
