use Rattle.std.proofs.Common.{◌≡◌, ◌≤◌, ◌+◌, ◌*◌, length, map, drop}
use Rattle.gib_core.specs.Arena.{term_of, binds_from}
use Rattle.gib_local.specs.Builds.{destination_of}
use Rattle.gib_local_print.specs.LineTokens.{put_binds, put_further}
use Rattle.gib_local_print.specs.LocatedText.{given}
use Rattle.gib_local_print.proofs.print.+terms.Given as goal

abbrev pub decreases-put_term : goal.decreases-put_term
decreases-put_term l = 5 * l.id.0 + 4

abbrev pub decreases-put_end : goal.decreases-put_end
decreases-put_end l = 5 * l.id.0 + 3

abbrev pub decreases-put_binding : goal.decreases-put_binding
decreases-put_binding l = 5 * l.parent.0 + 3

abbrev pub decreases-put_one : goal.decreases-put_one
decreases-put_one l = 5 * l.parent.0 + 2

abbrev pub decreases-put_par : goal.decreases-put_par
decreases-put_par l = 5 * l.parent.0 + 2

abbrev pub decreases-put_fields : goal.decreases-put_fields
decreases-put_fields l = 5 * l.parent.0 + 1

abbrev pub decreases-put_sides : goal.decreases-put_sides
decreases-put_sides l = 5 * l.parent.0 + 1

abbrev pub decreases-put_side : goal.decreases-put_side
decreases-put_side l = 5 * l.side.term.0 + 5

abbrev pub decreases-put_branch : goal.decreases-put_branch
decreases-put_branch l = 5 * l.branch.now.term.0 + 5

abbrev pub decreases-put_branches : goal.decreases-put_branches
decreases-put_branches l = 5 * l.parent.0 + 1

abbrev pub invariant-put_branches-branches : goal.invariant-put_branches-branches
invariant-put_branches-branches l =
    (1 ≤ l.i) × (l.i ≤ length l.branches) × (l.out ≡ put_further given l.from.types.now (term_of l.from.terms.now) (drop l.i l.branches) (destination_of l.target.destination) l.target.at l.fn.out)

abbrev pub decreases-put_branches-branches : goal.decreases-put_branches-branches
decreases-put_branches-branches l = l.i

abbrev pub invariant-put_term-bindings : goal.invariant-put_term-bindings
invariant-put_term-bindings l =
    (l.i ≤ length l.bindings.items)
    × (l.out ≡ put_binds given l.from.types.now (binds_from (term_of l.from.terms.now) (drop l.i l.bindings.items)) (map destination_of (drop l.i l.befores.items)) l.target.at l.initial.out)

abbrev pub decreases-put_term-bindings : goal.decreases-put_term-bindings
decreases-put_term-bindings l = l.i
