use Rattle.std.proofs.Common.{◌≡◌, ◌+◌, length, slice_get}
use Rattle.gib_types.specs.Table.{at_fields}
use Rattle.gib_plain.proofs.turns.nth_at.Given as goal

abbrev pub invariant-arguments : goal.invariant-arguments
invariant-arguments l =
    (slice_get (at_fields l.scalars l.types l.arguments) l.at ≡ slice_get (at_fields l.scalars l.fn.types l.fn.arguments) l.fn.at)
    × (length (at_fields l.scalars l.fn.types l.fn.arguments) + l.at ≡ l.fn.at + length (at_fields l.scalars l.types l.arguments))

abbrev pub decreases-arguments : goal.decreases-arguments
decreases-arguments l = length l.arguments
