use Rattle.std.proofs.Common.{◌≡◌, ◌++◌, map, length}
use Rattle.gib_place.specs.Renaming.{rename_atom}
use Rattle.gib_place.specs.Numbering.{place_in}
use Rattle.gib_place.proofs.renumber.copying.renamed_atoms.Given as goal

abbrev pub invariant-atoms : goal.invariant-atoms
invariant-atoms l = l.renamed.items ++ map (rename_atom (place_in l.numbers)) l.left ≡ map (rename_atom (place_in l.numbers)) l.atoms

abbrev pub decreases-atoms : goal.decreases-atoms
decreases-atoms l = length l.left
