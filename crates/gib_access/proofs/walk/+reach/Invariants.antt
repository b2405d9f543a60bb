use Rattle.std.proofs.Common.{◌≤◌, ◌+◌, ◌*◌, length, drop, reverse}
use Rattle.gib_core.specs.Arena.{term_in, term_of, parts_from, branches_from}
use Rattle.gib_access.specs.Made.{ReachesParts, ReachesBranches}
use Rattle.gib_access.specs.Sources.{way_of}
use Rattle.gib_access.proofs.Lining.{LineSoFar}
use Rattle.gib_access.proofs.walk.+reach.Given as goal

abbrev pub decreases-reach_term : goal.decreases-reach_term
decreases-reach_term l = 6 * l.id.0 + 5

abbrev pub decreases-reach_line : goal.decreases-reach_line
decreases-reach_line l = 6 * l.line.now.id.0 + 4

abbrev pub decreases-reach_end : goal.decreases-reach_end
decreases-reach_end l = 6 * l.id.0 + 3

abbrev pub decreases-reach_binding : goal.decreases-reach_binding
decreases-reach_binding l = 6 * l.parent.0 + 2

abbrev pub decreases-reach_side : goal.decreases-reach_side
decreases-reach_side l = 6 * (term_in l.side).0 + 6

abbrev pub decreases-reach_tuple : goal.decreases-reach_tuple
decreases-reach_tuple l = 6 * l.parent.0 + 2

abbrev pub decreases-reach_parts : goal.decreases-reach_parts
decreases-reach_parts l = 6 * l.parent.0 + 1

abbrev pub invariant-reach_parts-parts : goal.invariant-reach_parts-parts
invariant-reach_parts-parts l = (l.i ≤ length l.parts) × ReachesParts (way_of l.source) l.fn.work l.work (reverse l.reversed.items) (parts_from (term_of l.source.terms.now) (drop l.i l.parts))

abbrev pub decreases-reach_parts-parts : goal.decreases-reach_parts-parts
decreases-reach_parts-parts l = l.i

abbrev pub decreases-reach_if : goal.decreases-reach_if
decreases-reach_if l = 6 * l.parent.0 + 2

abbrev pub decreases-reach_case : goal.decreases-reach_case
decreases-reach_case l = 6 * l.parent.0 + 2

abbrev pub decreases-reach_branches : goal.decreases-reach_branches
decreases-reach_branches l = 6 * l.parent.0 + 1

abbrev pub decreases-reach_branch : goal.decreases-reach_branch
decreases-reach_branch l = 6 * l.branch.now.term.0 + 5

abbrev pub invariant-reach_line-bindings : goal.invariant-reach_line-bindings
invariant-reach_line-bindings l = LineSoFar (way_of l.source) l.source.terms.now l.line.bindings.now l.line.last.0 l.ends l.i l.fn.work l.work l.made

abbrev pub decreases-reach_line-bindings : goal.decreases-reach_line-bindings
decreases-reach_line-bindings l = l.i

abbrev pub invariant-reach_branches-branches : goal.invariant-reach_branches-branches
invariant-reach_branches-branches l = (l.i ≤ length l.branches) × ReachesBranches (way_of l.source) l.fn.work l.work (reverse l.reversed.items) (branches_from (term_of l.source.terms.now) (drop l.i l.branches))

abbrev pub decreases-reach_branches-branches : goal.decreases-reach_branches-branches
decreases-reach_branches-branches l = l.i
