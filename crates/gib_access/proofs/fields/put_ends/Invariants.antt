use Rattle.std.proofs.Common.{◌≤◌, length, drop}
use Rattle.gib_access.specs.Planned.{ends_at}
use Rattle.gib_access.specs.Made.{Fronts}
use Rattle.gib_access.proofs.fields.put_ends.Given as goal

abbrev pub invariant-fields : goal.invariant-fields
invariant-fields l = (l.i ≤ length l.ends) × Fronts l.fn.terms l.terms l.term l.fn.body (ends_at l.place (drop l.i l.ends))

abbrev pub decreases-fields : goal.decreases-fields
decreases-fields l = l.i
