use Rattle.std.proofs.Common.{◌≤◌, length, drop}
use Rattle.std.specs.List.{AllByRecursion}
use Rattle.gib_core.specs.Literals.{LiteralFits}
use Rattle.gib_core.proofs.literals.literals.Given as goal

abbrev pub invariant-atoms : goal.invariant-atoms
invariant-atoms l = (l.i ≤ length l.atoms) × AllByRecursion LiteralFits (drop l.i l.atoms)

abbrev pub decreases-atoms : goal.decreases-atoms
decreases-atoms l = l.i
