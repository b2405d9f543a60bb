use Rattle.std.proofs.Common.{length}
use Rattle.gib_check.proofs.InScope.{TakenOut}
use Rattle.gib_check.proofs.scope.Scope.truncate.Given as goal

abbrev pub invariant-entries : goal.invariant-entries
invariant-entries g l = TakenOut l.fn.self l.self l.len

abbrev pub decreases-entries : goal.decreases-entries
decreases-entries g l = length l.self
