use Rattle.std.proofs.Common.{◌≡◌, ◌≤◌, ◌+◌, ◌-◌, length, drop}
use Rattle.gib_core.specs.Arena.{term_of, binds_from}
use Rattle.gib_access.specs.Planned.{first_use}
use Rattle.gib_access.proofs.planning.first_use.Given as goal

abbrev pub invariant-bindings : goal.invariant-bindings
invariant-bindings l = (l.i ≤ length l.bindings) × (first_use (binds_from (term_of l.terms) l.bindings) l.x ≡ l.i + first_use (binds_from (term_of l.terms) (drop l.i l.bindings)) l.x)

abbrev pub decreases-bindings : goal.decreases-bindings
decreases-bindings l = length l.bindings - l.i
