use Rattle.std.proofs.Common.{length}
use Rattle.gib_check.proofs.Singles.{SinglesSoFar}
use Rattle.gib_check.proofs.rules.all_single.Given as goal

abbrev pub invariant-parts : goal.invariant-parts
invariant-parts l = SinglesSoFar l.state l.parts l.rest l.ids.items

abbrev pub decreases-parts : goal.decreases-parts
decreases-parts l = length l.rest
