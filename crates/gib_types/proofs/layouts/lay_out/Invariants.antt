use Rattle.std.proofs.Common.{◌≡◌, ◌≤◌, ◌+◌, ◌*◌, drop, length}
use Rattle.gib_types.specs.Layout.{scalar_size, packed_count}
use Rattle.gib_types.proofs.layouts.lay_out.Given as goal

abbrev pub invariant-fields : goal.invariant-fields
invariant-fields l = record {
  within : l.i ≤ length l.fields;
  scalars : l.scalars ≡ scalar_size (drop l.i l.fields);
  packed : l.packed ≡ packed_count (drop l.i l.fields);
  bound : l.scalars + 8 * l.packed + 8 * l.i ≤ 8 * length l.fields;
}

abbrev pub decreases-fields : goal.decreases-fields
decreases-fields l = l.i
