use Rattle.std.proofs.Common.{◌≡◌, length}
use Rattle.gib_core.specs.Ending.{some_ended}
use Rattle.gib_core.proofs.ended.EndedSet.has_some.Given as goal

abbrev pub invariant-pairs : goal.invariant-pairs
invariant-pairs l = some_ended l.rest l.function.0 ≡ some_ended l.self l.function.0

abbrev pub decreases-pairs : goal.decreases-pairs
decreases-pairs l = length l.rest
