use Rattle.std.proofs.Common.{◌-◌, length}
use Rattle.gib_mono.proofs.Baring.{SingleBefore}
use Rattle.gib_mono.proofs.plain.are_single.Given as goal

abbrev pub invariant-nodes : goal.invariant-nodes
invariant-nodes l = SingleBefore l.exprs l.number

abbrev pub decreases-nodes : goal.decreases-nodes
decreases-nodes l = length l.exprs.nodes - l.number
