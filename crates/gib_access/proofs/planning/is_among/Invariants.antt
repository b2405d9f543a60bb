use Rattle.std.proofs.Common.{◌≡◌, ◌≤◌, ◌-◌, length, drop}
use Rattle.gib_core.specs.Reaching.{has_variable}
use Rattle.gib_access.proofs.planning.is_among.Given as goal

abbrev pub invariant-atoms : goal.invariant-atoms
invariant-atoms l = (l.i ≤ length l.atoms) × (has_variable l.x l.atoms ≡ has_variable l.x (drop l.i l.atoms))

abbrev pub decreases-atoms : goal.decreases-atoms
decreases-atoms l = length l.atoms - l.i
