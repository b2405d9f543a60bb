use Rattle.std.proofs.Common.{length}
use Rattle.gib_local.proofs.NamesKept.{EnteredSoFar}
use Rattle.gib_local.proofs.naming.enter_all.Given as goal

abbrev pub invariant-parameters : goal.invariant-parameters
invariant-parameters l = EnteredSoFar l.fn.scopes l.scopes l.parameters l.rest

abbrev pub decreases-parameters : goal.decreases-parameters
decreases-parameters l = length l.rest
