use Rattle.std.proofs.Common.{length}
use Rattle.gib_mono.proofs.Baring.{BareSoFar}
use Rattle.gib_mono.proofs.plain.bare_exprs.Given as goal

abbrev pub invariant-nodes : goal.invariant-nodes
invariant-nodes l = BareSoFar l.fn.exprs l.number l.made l.left.rest.items

abbrev pub decreases-nodes : goal.decreases-nodes
decreases-nodes l = length l.left.rest.items
