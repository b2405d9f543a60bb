use Rattle.std.proofs.Common.{◌-◌, ◌≡◌, ◌≤◌, length, take, map}
use Rattle.gib_types.specs.Table.{row_of}
use Rattle.gib_types.proofs.copy.copy_constructors.Given as goal

abbrev pub invariant-constructors : goal.invariant-constructors
invariant-constructors l = (l.i ≤ length l.types.rows) × (map row_of l.copies.items ≡ take l.i l.types.rows)

abbrev pub decreases-constructors : goal.decreases-constructors
decreases-constructors l = l.count - l.i
