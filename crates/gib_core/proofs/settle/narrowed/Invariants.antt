use Rattle.std.proofs.Common.{◌≡◌, ◌≤◌, ◌-◌, ◌++◌, length, drop, filter}
use Rattle.gib_core.specs.Parts.{core_of}
use Rattle.gib_core.specs.Ending.{stays_ended}
use Rattle.gib_core.proofs.settle.narrowed.Given as goal

abbrev pub invariant-pairs : goal.invariant-pairs
invariant-pairs l = (l.i ≤ length l.set) × (l.kept.items ++ filter (stays_ended (core_of l.core) l.set) (drop l.i l.set) ≡ filter (stays_ended (core_of l.core) l.set) l.set)

abbrev pub decreases-pairs : goal.decreases-pairs
decreases-pairs l = length l.pairs - l.i
