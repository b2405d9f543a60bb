use Rattle.std.proofs.Common.{◌≤◌, ◌+◌, ◌*◌, ◌-◌, length, drop, reverse}
use Rattle.gib_core.specs.Arena.{term_in, term_of, parts_from, branches_from}
use Rattle.gib_place.specs.Placing.{inner_parts, inner_branches}
use Rattle.gib_place.specs.Filled.{once_by}
use Rattle.gib_place.specs.Made.{MakesParts, MakesBranches}
use Rattle.gib_place.proofs.Making.{BindingsSoFar}
use Rattle.gib_place.proofs.walk.+place.Given as goal

abbrev pub decreases-place_term : goal.decreases-place_term
decreases-place_term l = 6 * l.id.0 + 5

abbrev pub decreases-place_bindings : goal.decreases-place_bindings
decreases-place_bindings l = 6 * l.parent.0 + 3

abbrev pub decreases-place_binding : goal.decreases-place_binding
decreases-place_binding l = 6 * l.parent.0 + 2

abbrev pub decreases-place_side : goal.decreases-place_side
decreases-place_side l = 6 * (term_in l.side).0 + 6

abbrev pub decreases-place_end : goal.decreases-place_end
decreases-place_end l = 6 * l.id.0 + 4

abbrev pub decreases-place_branching : goal.decreases-place_branching
decreases-place_branching l = 6 * l.parent.0 + 3

abbrev pub decreases-place_parts : goal.decreases-place_parts
decreases-place_parts l = 6 * l.parent.0 + 1

abbrev pub decreases-place_branches : goal.decreases-place_branches
decreases-place_branches l = 6 * l.parent.0 + 1

abbrev pub decreases-place_branch : goal.decreases-place_branch
decreases-place_branch l = 6 * l.branch.now.term.0 + 6

abbrev pub invariant-place_bindings-bindings : goal.invariant-place_bindings-bindings
invariant-place_bindings-bindings l = BindingsSoFar (once_by l.placing.once.now) (term_of l.placing.terms.now) l.bindings l.i l.fn.scratch.terms l.scratch.terms l.placed.items

abbrev pub decreases-place_bindings-bindings : goal.decreases-place_bindings-bindings
decreases-place_bindings-bindings l = length l.bindings - l.i

abbrev pub invariant-place_parts-parts : goal.invariant-place_parts-parts
invariant-place_parts-parts l = (l.i ≤ length l.parts) × MakesParts l.fn.scratch.terms l.scratch.terms (reverse l.reversed.items) (inner_parts (once_by l.placing.once.now) (parts_from (term_of l.placing.terms.now) (drop l.i l.parts)))

abbrev pub decreases-place_parts-parts : goal.decreases-place_parts-parts
decreases-place_parts-parts l = l.i

abbrev pub invariant-place_branches-branches : goal.invariant-place_branches-branches
invariant-place_branches-branches l = (l.i ≤ length l.branches) × MakesBranches l.fn.scratch.terms l.scratch.terms (reverse l.reversed.items) (inner_branches (once_by l.placing.once.now) (branches_from (term_of l.placing.terms.now) (drop l.i l.branches)))

abbrev pub decreases-place_branches-branches : goal.decreases-place_branches-branches
decreases-place_branches-branches l = l.i
