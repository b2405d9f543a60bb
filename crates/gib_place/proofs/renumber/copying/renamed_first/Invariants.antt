use Rattle.std.proofs.Common.{◌≡◌, ℕ, ◌+◌, ◌-◌, ◌<◌, length}
use Rattle.gib_core.specs.PartTypes.{types_in}
use Rattle.gib_place.specs.Numbering.{place_in}
use Rattle.gib_place.proofs.renumber.copying.renamed_first.Given as goal

abbrev pub invariant-variables : goal.invariant-variables
invariant-variables l = (j : ℕ) → j < l.i → place_in l.numbers (l.first.0 + j) ≡ l.renamed.0 + j

abbrev pub decreases-variables : goal.decreases-variables
decreases-variables l = length (types_in l.types) - l.i
