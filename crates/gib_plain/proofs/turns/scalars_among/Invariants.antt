use Rattle.std.proofs.Common.{◌≡◌, ◌≤◌, ◌+◌, length}
use Rattle.gib_plain.specs.Turns.{scalars_among}
use Rattle.gib_plain.proofs.turns.scalars_among.Given as goal

abbrev pub invariant-types : goal.invariant-types
invariant-types l = (l.found + scalars_among l.rest l.left ≡ scalars_among l.types l.count) × (l.found + l.left ≤ l.count)

abbrev pub decreases-types : goal.decreases-types
decreases-types l = length l.rest
