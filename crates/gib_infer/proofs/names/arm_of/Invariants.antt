use Rattle.std.proofs.Common.{length}
use Rattle.gib_infer.proofs.Arms.{ArmsLeft}
use Rattle.gib_infer.proofs.names.arm_of.Given as goal

abbrev pub invariant-arms : goal.invariant-arms
invariant-arms l = ArmsLeft l.typed l.arms l.left l.con.0

abbrev pub decreases-arms : goal.decreases-arms
decreases-arms l = length l.left
