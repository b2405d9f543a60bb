use Rattle.std.proofs.Common.{◌≡◌, ◌++◌, length}
use Rattle.gib_core.specs.Low.{operands}
use Rattle.gib_lower.proofs.atoms.operands.Given as goal

abbrev pub invariant-atoms : goal.invariant-atoms
invariant-atoms l = l.made.items ++ operands l.left ≡ operands l.atoms

abbrev pub decreases-atoms : goal.decreases-atoms
decreases-atoms l = length l.left
