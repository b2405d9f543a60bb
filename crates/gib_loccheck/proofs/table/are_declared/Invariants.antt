use Rattle.std.proofs.Common.{◌≡◌, length}
use Rattle.gib_core.specs.Rules.{are_declared}
use Rattle.gib_loccheck.proofs.table.are_declared.Given as goal

abbrev pub invariant-types : goal.invariant-types
invariant-types l = are_declared l.types l.left ≡ are_declared l.types l.listed

abbrev pub decreases-types : goal.decreases-types
decreases-types l = length l.left
