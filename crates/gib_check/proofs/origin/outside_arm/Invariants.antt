use Rattle.std.proofs.Common.{◌≡◌, ◌≤◌, drop, length}
use Rattle.gib_check.specs.Origins.{outside_arm}
use Rattle.gib_check.proofs.origin.outside_arm.Given as goal

abbrev pub invariant-variables : goal.invariant-variables
invariant-variables l = (l.place ≤ length l.variables) × (l.place ≤ length l.fields) × (l.origin ≡ outside_arm (drop l.place l.variables) (drop l.place l.fields) l.fn.body)

abbrev pub decreases-variables : goal.decreases-variables
decreases-variables l = l.place
