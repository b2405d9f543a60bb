use Rattle.std.proofs.Common.{length}
use Rattle.gib_local.proofs.NamesKept.{BoundSoFar}
use Rattle.gib_local.proofs.scopes.Scopes.bound_all.Given as goal

abbrev pub invariant-variables : goal.invariant-variables
invariant-variables l = BoundSoFar l.fn.self l.self l.variables l.rest

abbrev pub decreases-variables : goal.decreases-variables
decreases-variables l = length l.rest
