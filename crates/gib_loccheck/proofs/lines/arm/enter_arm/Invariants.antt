use Rattle.std.proofs.Common.{◌≡◌, length, reverse}
use Rattle.std.proofs.Common.{None}
use Rattle.gib_core.specs.Met.{with_arm}
use Rattle.gib_loccheck.specs.Judging.{Extends}
use Rattle.gib_loccheck.proofs.lines.arm.enter_arm.Given as goal

abbrev pub invariant-variables : goal.invariant-variables
invariant-variables l = (with_arm l.constructor l.left l.types_left l.before (reverse l.scope.items) ≡ with_arm l.constructor l.variables l.types None (reverse l.fn.scope.items)) × Extends l.fn.scope.items l.scope.items

abbrev pub decreases-variables : goal.decreases-variables
decreases-variables l = length l.left
