use Rattle.std.proofs.Common.{◌≡◌, ◌≤◌, ◌+◌, ◌*◌, ◌-◌, length, drop}
use Rattle.gib_core.specs.Arena.{term_in, term_of, parts_from, branches_from}
use Rattle.gib_core.specs.Marking.{parts_have_call, branches_have_call}
use Rattle.gib_core.proofs.Marks.{CallSoFar}
use Rattle.gib_core.proofs.marking.+calls.Given as goal

abbrev pub decreases-has_call : goal.decreases-has_call
decreases-has_call l = 4 * l.id.0 + 3

abbrev pub decreases-end_has_call : goal.decreases-end_has_call
decreases-end_has_call l = 4 * l.id.0 + 2

abbrev pub decreases-binding_has_call : goal.decreases-binding_has_call
decreases-binding_has_call l = 4 * l.parent.0 + 2

abbrev pub decreases-side_has_call : goal.decreases-side_has_call
decreases-side_has_call l = 4 * (term_in l.side).0 + 4

abbrev pub decreases-parts_have_call : goal.decreases-parts_have_call
decreases-parts_have_call l = 4 * l.parent.0 + 1

abbrev pub invariant-parts_have_call-parts : goal.invariant-parts_have_call-parts
invariant-parts_have_call-parts l =
    (l.i ≤ length l.parts) × (parts_have_call (parts_from (term_of l.terms) l.parts) ≡ parts_have_call (parts_from (term_of l.terms) (drop l.i l.parts)))

abbrev pub decreases-parts_have_call-parts : goal.decreases-parts_have_call-parts
decreases-parts_have_call-parts l = length l.parts - l.i

abbrev pub decreases-branches_have_call : goal.decreases-branches_have_call
decreases-branches_have_call l = 4 * l.parent.0 + 1

abbrev pub invariant-branches_have_call-branches : goal.invariant-branches_have_call-branches
invariant-branches_have_call-branches l =
    (l.i ≤ length l.branches) × (branches_have_call (branches_from (term_of l.terms) l.branches) ≡ branches_have_call (branches_from (term_of l.terms) (drop l.i l.branches)))

abbrev pub decreases-branches_have_call-branches : goal.decreases-branches_have_call-branches
decreases-branches_have_call-branches l = length l.branches - l.i

abbrev pub invariant-has_call-line : goal.invariant-has_call-line
invariant-has_call-line l = CallSoFar l.terms l.fn.id.0 l.last.0 l.node

abbrev pub decreases-has_call-line : goal.decreases-has_call-line
decreases-has_call-line l = l.last.0
