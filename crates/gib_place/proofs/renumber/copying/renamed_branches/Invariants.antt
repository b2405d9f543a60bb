use Rattle.std.proofs.Common.{◌≤◌, length, drop, reverse}
use Rattle.gib_place.specs.Numbering.{place_in}
use Rattle.gib_place.specs.Shifting.{BranchesShifted}
use Rattle.gib_place.proofs.renumber.copying.renamed_branches.Given as goal

abbrev pub invariant-branches : goal.invariant-branches
invariant-branches l = (l.i ≤ length l.branches) × BranchesShifted (place_in l.numbers) l.base (drop l.i l.branches) (reverse l.reversed.items)

abbrev pub decreases-branches : goal.decreases-branches
decreases-branches l = l.i
