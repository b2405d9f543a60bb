use Rattle.std.proofs.Common.{ℕ, ◌≡◌, ◌≤◌, ◌<◌, ◌-◌, length, Some}
use Rattle.gib_types.specs.Table.{con_at, fields_at}
use Rattle.gib_value.proofs.read.has_full.Given as goal

abbrev pub invariant-constructors : goal.invariant-constructors
invariant-constructors l = (l.con ≤ length l.types.rows) × ((k : ℕ) → k < l.con → con_at l.types l.ty.0 k ≡ Some k → 0 < length (fields_at l.types k) → ⊥)

abbrev pub decreases-constructors : goal.decreases-constructors
decreases-constructors l = length l.types.rows - l.con
