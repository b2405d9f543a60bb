use Rattle.std.proofs.Common.{◌≡◌, ◌++◌, length}
use Rattle.gib_core.specs.Inferring.{as_atoms}
use Rattle.gib_place.proofs.laying.atoms_of.Given as goal

abbrev pub invariant-variables : goal.invariant-variables
invariant-variables l = l.atoms.items ++ as_atoms l.left ≡ as_atoms l.variables

abbrev pub decreases-variables : goal.decreases-variables
decreases-variables l = length l.left
