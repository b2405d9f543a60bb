use Rattle.std.proofs.Common.{◌≡◌, ◌≤◌, length, drop}
use Rattle.std.specs.List.{list_any}
use Rattle.gib_access.specs.Used.{since, before_at, skips_by}
use Rattle.gib_access.specs.Made.{Fronts}
use Rattle.gib_access.proofs.fields.put_skips.Given as goal

abbrev pub invariant-fields : goal.invariant-fields
invariant-fields l = record {
  within : l.i ≤ length l.fields;
  wanted : l.wanted ≡ list_any (since l.stamps l.start) (drop l.i l.fields);
  fronts : Fronts l.fn.terms l.terms l.term l.fn.body (skips_by (since l.stamps l.start) (before_at l.first l.fields l.i) (drop l.i l.fields));
}

abbrev pub decreases-fields : goal.decreases-fields
decreases-fields l = l.i
