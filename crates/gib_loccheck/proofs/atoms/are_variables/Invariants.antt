use Rattle.std.proofs.Common.{◌≡◌, length}
use Rattle.gib_core.specs.Rules.{are_variables}
use Rattle.gib_loccheck.proofs.atoms.are_variables.Given as goal

abbrev pub invariant-variables : goal.invariant-variables
invariant-variables l = are_variables l.left l.atoms_left ≡ are_variables l.variables l.atoms

abbrev pub decreases-variables : goal.decreases-variables
decreases-variables l = length l.left
