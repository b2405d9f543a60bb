use Rattle.std.proofs.Common.{◌+◌, ◌*◌, length}
use Rattle.gib_local_parse.specs.Sources.{places_at}
use Rattle.gib_local_parse.proofs.ArmLoops.{ArmsSoFar}
use Rattle.gib_local_parse.proofs.terms.+terms.Given as goal

abbrev pub decreases-term : goal.decreases-term
decreases-term l = 16 * l.depth.now.level

abbrev pub decreases-step : goal.decreases-step
decreases-step l = 16 * l.depth.now.level + 15

abbrev pub decreases-line : goal.decreases-line
decreases-line l = 16 * l.depth.now.level + 14

abbrev pub decreases-binding : goal.decreases-binding
decreases-binding l = 16 * l.depth.now.level + 13

abbrev pub decreases-binding_by : goal.decreases-binding_by
decreases-binding_by l = 16 * l.depth.now.level + 12

abbrev pub decreases-let_in : goal.decreases-let_in
decreases-let_in l = 16 * l.depth.now.level + 11

abbrev pub decreases-let_one : goal.decreases-let_one
decreases-let_one l = 16 * l.depth.now.level + 10

abbrev pub decreases-let_par : goal.decreases-let_par
decreases-let_par l = 16 * l.depth.now.level + 10

abbrev pub decreases-side : goal.decreases-side
decreases-side l = 16 * l.depth.now.level + 8

abbrev pub decreases-side_rest : goal.decreases-side_rest
decreases-side_rest l = 16 * l.depth.now.level + 7

abbrev pub decreases-if_then : goal.decreases-if_then
decreases-if_then l = 16 * l.depth.now.level + 1

abbrev pub decreases-case_of : goal.decreases-case_of
decreases-case_of l = 16 * l.depth.now.level + 6

abbrev pub decreases-arms : goal.decreases-arms
decreases-arms l = 16 * l.depth.now.level + 5

abbrev pub decreases-next_arm : goal.decreases-next_arm
decreases-next_arm l = 16 * l.depth.now.level + 4

abbrev pub decreases-arm : goal.decreases-arm
decreases-arm l = 16 * l.depth.now.level + 3

abbrev pub invariant-arms-arms : goal.invariant-arms-arms
invariant-arms-arms l = ArmsSoFar l.fn.lines l.lines (places_at l.depth) l.depth.level l.tokens l.rest l.arms.items

abbrev pub decreases-arms-arms : goal.decreases-arms-arms
decreases-arms-arms l = length l.rest
