use Rattle.std.proofs.Common.{◌≡◌, length, reverse}
use Rattle.gib_core.specs.Met.{with_variables}
use Rattle.gib_loccheck.specs.Judging.{Extends, Stays}
use Rattle.gib_loccheck.proofs.lines.enter_all.Given as goal

abbrev pub invariant-variables : goal.invariant-variables
invariant-variables l =
    (with_variables l.left (reverse l.walk.scope.items) ≡ with_variables l.variables (reverse l.fn.walk.scope.items))
    × Extends l.fn.walk.scope.items l.walk.scope.items × (l.walk.others.items ≡ l.fn.walk.others.items) × (l.walk.calls.items ≡ l.fn.walk.calls.items)
    × Stays l.fn.walk l.walk

abbrev pub decreases-variables : goal.decreases-variables
decreases-variables l = length l.left
