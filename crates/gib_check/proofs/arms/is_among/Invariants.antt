use Rattle.std.proofs.Common.{◌≡◌, length, map}
use Rattle.std.specs.Prelude.{is_some}
use Rattle.gib_syntax.specs.Declarations.{place_of}
use Rattle.gib_check.specs.Faults as rule
use Rattle.gib_check.specs.Judging.{arm_head}
use Rattle.gib_check.proofs.arms.is_among.Given as goal

abbrev pub invariant-arms : goal.invariant-arms
invariant-arms l = is_some (place_of (rule.head_names (map arm_head l.arms)) l.name.0) ≡ is_some (place_of (rule.head_names (map arm_head l.rest)) l.name.0)

abbrev pub decreases-arms : goal.decreases-arms
decreases-arms l = length l.rest
