use Rattle.std.proofs.Common.{◌≡◌, length, map}
use Rattle.gib_check.specs.Faults as rule
use Rattle.gib_check.specs.Judging.{arm_head}
use Rattle.gib_check.specs.NameViews.{generic_globals}
use Rattle.gib_check.proofs.arms.all_declared.Given as goal

abbrev pub invariant-arms : goal.invariant-arms
invariant-arms l = rule.all_declared (generic_globals l.named).rows (map arm_head l.arms) ≡ rule.all_declared (generic_globals l.named).rows (map arm_head l.rest)

abbrev pub decreases-arms : goal.decreases-arms
decreases-arms l = length l.rest
