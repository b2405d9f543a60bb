use Rattle.std.proofs.Common.{◌≡◌, length}
use Rattle.gib_core.specs.Rules.{same_types}
use Rattle.gib_loccheck.proofs.table.same_types.Given as goal

abbrev pub invariant-types : goal.invariant-types
invariant-types l = same_types l.left l.others_left ≡ same_types l.types l.others

abbrev pub decreases-types : goal.decreases-types
decreases-types l = length l.left
