use Rattle.std.proofs.Common.{length}
use Rattle.gib_check.proofs.Loops.{PartsSoFar}
use Rattle.gib_check.proofs.state.State.bind_parts.Given as goal

abbrev pub invariant-variables : goal.invariant-variables
invariant-variables l = PartsSoFar l.fn.self l.self l.names l.rest l.types l.ids l.behind

abbrev pub decreases-variables : goal.decreases-variables
decreases-variables l = length l.rest
