use Rattle.std.proofs.Common.{◌≡◌, ◌≤◌, ◌<◌, ◌-◌, ℕ, length, slice_get, Some}
use Rattle.gib_types.specs.Layout.{layout_at, numbers_of, is_among}
use Rattle.gib_types.proofs.layouts.Layouts.make.Given as goal

abbrev pub invariant-constructors : goal.invariant-constructors
invariant-constructors l = record {
  within : l.con ≤ length l.types.rows;
  long : length l.all.items ≡ l.con;
  each : (k : ℕ) → k < l.con → slice_get l.all.items k ≡ Some (layout_at l.types (numbers_of l.with_offsets) k);
  all : length l.listed.items ≡ l.con;
  told : (k : ℕ) → k < l.con → slice_get l.listed.items k ≡ Some (is_among (numbers_of l.with_offsets) k);
}

abbrev pub decreases-constructors : goal.decreases-constructors
decreases-constructors l = length l.types.rows - l.con
