use Rattle.std.proofs.Common.{◌≡◌, ◌<◌, ◌≤◌, ◌-◌, ℕ, length, false}
use Rattle.gib_types.specs.Layout.{has_offsets}
use Rattle.gib_load.proofs.due.any_stores.Given as goal

abbrev pub invariant-constructors : goal.invariant-constructors
invariant-constructors l = record {
  within : l.con ≤ length l.layouts.table.rows;
  none : (k : ℕ) → k < l.con → has_offsets l.layouts k ≡ false;
}

abbrev pub decreases-constructors : goal.decreases-constructors
decreases-constructors l = length l.layouts.table.rows - l.con
