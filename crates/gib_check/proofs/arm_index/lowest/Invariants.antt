use Rattle.std.proofs.Common.{length}
use Rattle.gib_check.specs.Views.{table_in}
use Rattle.gib_check.proofs.ArmSteps.{NoneBelow}
use Rattle.gib_check.proofs.arm_index.lowest.Given as goal

abbrev pub invariant-arms : goal.invariant-arms
invariant-arms l = NoneBelow (table_in l.declared) l.arms l.rest l.lowest

abbrev pub decreases-arms : goal.decreases-arms
decreases-arms l = length l.rest
