use Rattle.std.proofs.Common.{ℕ, ◌≡◌, ◌≤◌, ◌<◌, ◌-◌, length, Some}
use Rattle.gib_types.specs.Table.{con_at}
use Rattle.gib_value.specs.Text.{con_text}
use Rattle.gib_value.proofs.read.find_among.Given as goal

abbrev pub invariant-constructors : goal.invariant-constructors
invariant-constructors l = (l.con ≤ length l.types.rows) × ((k : ℕ) → k < l.con → con_at l.types l.ty.0 k ≡ Some k → l.token ≡ con_text l.types l.names.short k → ⊥)

abbrev pub decreases-constructors : goal.decreases-constructors
decreases-constructors l = length l.types.rows - l.con
