use Rattle.std.proofs.Common.{length}
use Rattle.gib_local.proofs.BodyNames.{BodiesSoFar}
use Rattle.gib_local.proofs.naming.bodies.Given as goal

abbrev pub invariant-functions : goal.invariant-functions
invariant-functions l = BodiesSoFar l.known l.functions l.rest

abbrev pub decreases-functions : goal.decreases-functions
decreases-functions l = length l.rest
