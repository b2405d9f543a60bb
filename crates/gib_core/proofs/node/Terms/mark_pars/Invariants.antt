use Rattle.std.proofs.Common.{◌-◌, length}
use Rattle.gib_core.proofs.Marks.{MarkedBelow}
use Rattle.gib_core.proofs.node.Terms.mark_pars.Given as goal

abbrev pub invariant-terms : goal.invariant-terms
invariant-terms l = MarkedBelow l.fn.self l.self l.place

abbrev pub decreases-terms : goal.decreases-terms
decreases-terms l = length l.self - l.place
