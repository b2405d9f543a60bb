use Rattle.std.proofs.Common.{◌≡◌, length}
use Rattle.gib_core.specs.Parts.{core_of}
use Rattle.gib_core.specs.Ending.{all_packed, settled}
use Rattle.gib_core.proofs.settle.settled.Given as goal

abbrev pub invariant-rounds : goal.invariant-rounds
invariant-rounds l = settled (core_of l.core) l.left l.set ≡ settled (core_of l.core) (length (all_packed (core_of l.core).functions)) (all_packed (core_of l.core).functions)

abbrev pub decreases-rounds : goal.decreases-rounds
decreases-rounds l = l.left
