use Rattle.std.proofs.Common.{length}
use Rattle.gib_local.proofs.Tallies.{BodiesCounted}
use Rattle.gib_local.proofs.counting.bodies.Given as goal

abbrev pub invariant-functions : goal.invariant-functions
invariant-functions l = BodiesCounted l.known l.fn.tally l.tally l.functions l.rest

abbrev pub decreases-functions : goal.decreases-functions
decreases-functions l = length l.rest
