use Rattle.std.proofs.Common.{◌+◌, ◌*◌, length}
use Rattle.gib_local.specs.CountingSteps.{program_in}
use Rattle.gib_local_parse.specs.LineArena.{tree_of}
use Rattle.gib_local.proofs.Tallies.{ArmsCounted}
use Rattle.gib_local.proofs.counting.+counting.Given as goal

abbrev pub decreases-line : goal.decreases-line
decreases-line l = 4 * l.id.0 + 3

abbrev pub decreases-binding : goal.decreases-binding
decreases-binding l = 4 * l.below.0 + 1

abbrev pub decreases-side : goal.decreases-side
decreases-side l = 4 * l.below.0

abbrev pub decreases-arms : goal.decreases-arms
decreases-arms l = 4 * l.below.0

abbrev pub invariant-arms-arms : goal.invariant-arms-arms
invariant-arms-arms l = ArmsCounted (program_in l.known) (tree_of l.known.lines) l.fn.below.0 l.fn.tally l.tally l.arms l.rest

abbrev pub decreases-arms-arms : goal.decreases-arms-arms
decreases-arms-arms l = length l.rest
