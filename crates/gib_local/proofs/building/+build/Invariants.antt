use Rattle.std.proofs.Common.{◌+◌, ◌*◌, max, length}
use Rattle.gib_local_parse.specs.LineArena.{tree_of}
use Rattle.gib_local.specs.Builds.{program_in}
use Rattle.gib_local.proofs.Forking.{ArmsSoFar}
use Rattle.gib_local.proofs.building.+build.Given as goal

abbrev pub decreases-line : goal.decreases-line
decreases-line l = 8 * l.id.0 + 3

abbrev pub decreases-within : goal.decreases-within
decreases-within l = 8 * l.id.0 + 2

abbrev pub decreases-step : goal.decreases-step
decreases-step l = 8 * l.below.0 + 1

abbrev pub decreases-one : goal.decreases-one
decreases-one l = 8 * l.side.line.0 + 6

abbrev pub decreases-both : goal.decreases-both
decreases-both l = 8 * l.below.0

abbrev pub decreases-bind_side : goal.decreases-bind_side
decreases-bind_side l = 8 * l.side.line.0 + 5

abbrev pub decreases-scalar_side : goal.decreases-scalar_side
decreases-scalar_side l = 8 * l.side.line.0 + 4

abbrev pub decreases-packed_side : goal.decreases-packed_side
decreases-packed_side l = 8 * l.side.line.0 + 4

abbrev pub decreases-case : goal.decreases-case
decreases-case l = 8 * l.id.0 + 2

abbrev pub decreases-arms : goal.decreases-arms
decreases-arms l = 8 * l.below.0 + 1

abbrev pub decreases-arm_branch : goal.decreases-arm_branch
decreases-arm_branch l = 8 * l.below.0

abbrev pub decreases-if_else : goal.decreases-if_else
decreases-if_else l = 8 * max l.first.0 l.second.0 + 4

abbrev pub invariant-arms-arms : goal.invariant-arms-arms
invariant-arms-arms l = ArmsSoFar (program_in l.source) (tree_of l.source.lines) l.fn.below.0 l.fn.builder l.builder l.goal l.cases l.rest l.branches.items

abbrev pub decreases-arms-arms : goal.decreases-arms-arms
decreases-arms-arms l = length l.rest
