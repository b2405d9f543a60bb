use Rattle.std.proofs.Common.{◌≤◌, length, drop}
use Rattle.gib_core.specs.EndedSet.{HasNumbers}
use Rattle.gib_core.proofs.ended.numbers_of.Given as goal

abbrev pub invariant-pairs : goal.invariant-pairs
invariant-pairs l = (l.i ≤ length l.pairs) × HasNumbers l.numbers (drop l.i l.pairs)

abbrev pub decreases-pairs : goal.decreases-pairs
decreases-pairs l = l.i
