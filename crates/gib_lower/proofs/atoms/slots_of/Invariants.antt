use Rattle.std.proofs.Common.{◌≡◌, ◌++◌, length}
use Rattle.gib_core.specs.Low.{slots_of}
use Rattle.gib_lower.proofs.atoms.slots_of.Given as goal

abbrev pub invariant-atoms : goal.invariant-atoms
invariant-atoms l = l.made.items ++ slots_of l.left ≡ slots_of l.atoms

abbrev pub decreases-atoms : goal.decreases-atoms
decreases-atoms l = length l.left
