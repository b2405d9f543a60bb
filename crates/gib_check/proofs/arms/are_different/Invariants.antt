use Rattle.std.proofs.Common.{◌≡◌, length, map}
use Rattle.gib_check.specs.Faults as rule
use Rattle.gib_check.specs.Judging.{arm_head}
use Rattle.gib_check.proofs.arms.are_different.Given as goal

abbrev pub invariant-arms : goal.invariant-arms
invariant-arms l = rule.are_different (rule.head_names (map arm_head l.arms)) ≡ rule.are_different (rule.head_names (map arm_head l.rest))

abbrev pub decreases-arms : goal.decreases-arms
decreases-arms l = length l.rest
