use Rattle.std.proofs.Common.{◌≡◌, ◌++◌, length}
use Rattle.gib_local.specs.Building.{without}
use Rattle.gib_local.proofs.unused.without.Given as goal

abbrev pub invariant-numbers : goal.invariant-numbers
invariant-numbers l = l.left.items ++ without l.number l.rest ≡ without l.number l.numbers

abbrev pub decreases-numbers : goal.decreases-numbers
decreases-numbers l = length l.rest
