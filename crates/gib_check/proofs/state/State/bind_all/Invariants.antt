use Rattle.std.proofs.Common.{length}
use Rattle.gib_check.proofs.Loops.{BindsSoFar}
use Rattle.gib_check.proofs.state.State.bind_all.Given as goal

abbrev pub invariant-variables : goal.invariant-variables
invariant-variables l = BindsSoFar l.fn.self l.self l.variables l.names l.fields l.ids

abbrev pub decreases-variables : goal.decreases-variables
decreases-variables l = length l.names
