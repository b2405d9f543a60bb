use Rattle.std.proofs.Common.{◌≤◌, length, drop}
use Rattle.gib_access.specs.Used.{since, offsets_by_use}
use Rattle.gib_access.specs.Made.{Fronts}
use Rattle.gib_access.proofs.fields.put_offsets.Given as goal

abbrev pub invariant-fields : goal.invariant-fields
invariant-fields l = (l.i ≤ length l.fields) × Fronts l.fn.terms l.terms l.term l.fn.body (offsets_by_use (since l.stamps l.start) (drop l.i l.fields))

abbrev pub decreases-fields : goal.decreases-fields
decreases-fields l = l.i
