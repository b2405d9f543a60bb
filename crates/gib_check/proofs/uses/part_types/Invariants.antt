use Rattle.std.proofs.Common.{length}
use Rattle.gib_check.proofs.Loops.{RunsSoFar}
use Rattle.gib_check.proofs.uses.part_types.Given as goal

abbrev pub invariant-runs : goal.invariant-runs
invariant-runs l = RunsSoFar l.named.exprs.words l.fn.state l.state l.meaning l.runs l.rest l.ids.items

abbrev pub decreases-runs : goal.decreases-runs
decreases-runs l = length l.rest
