use Rattle.std.proofs.Common.{◌+◌, ◌*◌, max, length}
use Rattle.gib_core.specs.Arena.{term_of}
use Rattle.gib_core.specs.Parts.{core_of}
use Rattle.gib_loccheck.proofs.Lining.{LineSoFar}
use Rattle.gib_types.specs.Table.{tree_types}
use Rattle.gib_core.specs.PartTypes.{types_in}
use Rattle.gib_loccheck.proofs.Branching.{ArmsSoFar}
use Rattle.gib_loccheck.proofs.Parting.{PartsSoFar}
use Rattle.gib_loccheck.proofs.walk.+lines.Given as goal

abbrev pub decreases-check_term : goal.decreases-check_term
decreases-check_term l = 8 * l.id.0 + 7

abbrev pub decreases-check_end : goal.decreases-check_end
decreases-check_end l = 8 * l.id.0 + 6

abbrev pub decreases-check_binding : goal.decreases-check_binding
decreases-check_binding l = 8 * l.parent.0 + 5

abbrev pub decreases-bind_sides : goal.decreases-bind_sides
decreases-bind_sides l = 8 * l.parent.0 + 4

abbrev pub decreases-check_sides : goal.decreases-check_sides
decreases-check_sides l = 8 * l.parent.0 + 3

abbrev pub decreases-check_beside : goal.decreases-check_beside
decreases-check_beside l = 8 * l.parent.0 + 2

abbrev pub decreases-bind_side : goal.decreases-bind_side
decreases-bind_side l = 8 * l.parent.0 + 2

abbrev pub decreases-check_side : goal.decreases-check_side
decreases-check_side l = 8 * l.parent.0 + 1

abbrev pub decreases-check_tuple : goal.decreases-check_tuple
decreases-check_tuple l = 8 * l.parent.0 + 5

abbrev pub decreases-check_parts : goal.decreases-check_parts
decreases-check_parts l = 8 * l.parent.0 + 4

abbrev pub decreases-check_part : goal.decreases-check_part
decreases-check_part l = 8 * l.part.0 + 8

abbrev pub decreases-check_case : goal.decreases-check_case
decreases-check_case l = 8 * l.parent.0 + 5

abbrev pub decreases-check_branches : goal.decreases-check_branches
decreases-check_branches l = 8 * l.parent.0 + 4

abbrev pub decreases-check_branch : goal.decreases-check_branch
decreases-check_branch l = 8 * l.parent.0 + 3

abbrev pub decreases-check_if : goal.decreases-check_if
decreases-check_if l = 8 * max l.then_part.0 l.else_part.0 + 8

abbrev pub invariant-check_branches-branches : goal.invariant-check_branches-branches
invariant-check_branches-branches l = ArmsSoFar (core_of l.core) l.fn.walk l.walk l.target (term_of l.core.terms) l.branches l.left l.fn.parent.0

abbrev pub decreases-check_branches-branches : goal.decreases-check_branches-branches
decreases-check_branches-branches l = length l.left

abbrev pub invariant-check_term-bindings : goal.invariant-check_term-bindings
invariant-check_term-bindings l = LineSoFar (core_of l.core) l.core.terms l.fn.walk l.walk l.fn.target l.inner l.fn.id.0 l.rest.0 l.node

abbrev pub decreases-check_term-bindings : goal.decreases-check_term-bindings
decreases-check_term-bindings l = l.rest.0

abbrev pub invariant-check_parts-parts : goal.invariant-check_parts-parts
invariant-check_parts-parts l = PartsSoFar (core_of l.core) l.fn.walk l.walk l.target (term_of l.core.terms) (tree_types (types_in l.tuple.types)) l.tuple.parts.now l.left l.place l.fn.parent.0

abbrev pub decreases-check_parts-parts : goal.decreases-check_parts-parts
decreases-check_parts-parts l = length l.left
