use Rattle.std.proofs.Common.{◌≤◌, length, drop}
use Rattle.gib_core.specs.Reaching.{has_variable}
use Rattle.gib_access.specs.Used.{Marks}
use Rattle.gib_access.proofs.stamps.mark_atoms.Given as goal

abbrev pub invariant-atoms : goal.invariant-atoms
invariant-atoms l = (l.i ≤ length l.atoms) × Marks l.fn.stamps l.stamps (λ x. has_variable x (drop l.i l.atoms))

abbrev pub decreases-atoms : goal.decreases-atoms
decreases-atoms l = l.i
