use Rattle.std.proofs.Common.{◌≡◌, ◌≤◌, ◌-◌, length, drop, None}
use Rattle.gib_core.specs.Ending.{last_packed}
use Rattle.gib_core.proofs.known.last_packed.Given as goal

abbrev pub invariant-fields : goal.invariant-fields
invariant-fields l = (l.i ≤ length l.fields) × (l.i ≤ length l.variables) × (last_packed None l.fields l.variables ≡ last_packed l.found (drop l.i l.fields) (drop l.i l.variables))

abbrev pub decreases-fields : goal.decreases-fields
decreases-fields l = length l.fields - l.i
