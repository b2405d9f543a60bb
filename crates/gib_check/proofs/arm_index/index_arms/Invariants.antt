use Rattle.std.proofs.Common.{length}
use Rattle.gib_check.specs.Views.{table_in}
use Rattle.gib_check.proofs.ArmSteps.{PlacesSoFar}
use Rattle.gib_check.proofs.arm_index.index_arms.Given as goal

abbrev pub invariant-arms : goal.invariant-arms
invariant-arms l = PlacesSoFar (table_in l.declared) l.arms l.rest l.lowest l.places l.place

abbrev pub decreases-arms : goal.decreases-arms
decreases-arms l = length l.rest
