use Rattle.std.proofs.Common.{◌≡◌, ◌++◌, map, length}
use Rattle.gib_place.specs.Renaming.{rename_variable}
use Rattle.gib_place.specs.Numbering.{place_in}
use Rattle.gib_place.proofs.renumber.copying.renamed_variables.Given as goal

abbrev pub invariant-variables : goal.invariant-variables
invariant-variables l = l.renamed.items ++ map (rename_variable (place_in l.numbers)) l.left ≡ map (rename_variable (place_in l.numbers)) l.variables

abbrev pub decreases-variables : goal.decreases-variables
decreases-variables l = length l.left
