use Rattle.std.proofs.Common.{◌+◌, ◌*◌, max, length}
use Rattle.gib_local.specs.Knowing.{declared_of}
use Rattle.gib_local_parse.specs.LineArena.{tree_of}
use Rattle.gib_local.proofs.ArmNames.{ArmsSoFar}
use Rattle.gib_local.proofs.naming.+names.Given as goal

abbrev pub decreases-line : goal.decreases-line
decreases-line l = 8 * l.id.0 + 7

abbrev pub decreases-binding_then : goal.decreases-binding_then
decreases-binding_then l = 8 * l.below.0 + 6

abbrev pub decreases-case_of : goal.decreases-case_of
decreases-case_of l = 8 * l.below.0 + 6

abbrev pub decreases-if_then : goal.decreases-if_then
decreases-if_then l = 8 * max l.then_part.0 l.else_part.0 + 8

abbrev pub decreases-binding : goal.decreases-binding
decreases-binding l = 8 * l.below.0 + 5

abbrev pub decreases-sides : goal.decreases-sides
decreases-sides l = 8 * l.below.0 + 4

abbrev pub decreases-behind : goal.decreases-behind
decreases-behind l = 8 * l.below.0 + 3

abbrev pub decreases-arms : goal.decreases-arms
decreases-arms l = 8 * l.below.0 + 2

abbrev pub decreases-arm : goal.decreases-arm
decreases-arm l = 8 * l.below.0 + 1

abbrev pub invariant-arms-arms : goal.invariant-arms-arms
invariant-arms-arms l = ArmsSoFar (declared_of l.known) (tree_of l.known.lines) l.fn.below.0 l.fn.scopes l.scopes l.arms l.rest

abbrev pub decreases-arms-arms : goal.decreases-arms-arms
decreases-arms-arms l = length l.rest
