use Rattle.std.proofs.Common.{◌≡◌, ◌≤◌, ◌+◌, ◌*◌, ◌-◌, length, drop}
use Rattle.gib_core.specs.Arena.{term_in, term_of, parts_from, branches_from}
use Rattle.gib_core.specs.Reaching.{parts_use, branches_use}
use Rattle.gib_access.proofs.UsesLine.{UsesSoFar}
use Rattle.gib_access.proofs.planning.+uses.Given as goal

abbrev pub decreases-uses : goal.decreases-uses
decreases-uses l = 4 * l.id.0 + 3

abbrev pub decreases-end_uses : goal.decreases-end_uses
decreases-end_uses l = 4 * l.id.0 + 2

abbrev pub decreases-binding_uses : goal.decreases-binding_uses
decreases-binding_uses l = 4 * l.parent.0 + 2

abbrev pub decreases-side_uses_it : goal.decreases-side_uses_it
decreases-side_uses_it l = 4 * (term_in l.side).0 + 4

abbrev pub decreases-parts_use_it : goal.decreases-parts_use_it
decreases-parts_use_it l = 4 * l.parent.0 + 1

abbrev pub invariant-parts_use_it-parts : goal.invariant-parts_use_it-parts
invariant-parts_use_it-parts l =
    (l.i ≤ length l.parts) × (parts_use (parts_from (term_of l.terms) l.parts) l.x ≡ parts_use (parts_from (term_of l.terms) (drop l.i l.parts)) l.x)

abbrev pub decreases-parts_use_it-parts : goal.decreases-parts_use_it-parts
decreases-parts_use_it-parts l = length l.parts - l.i

abbrev pub decreases-branches_use_it : goal.decreases-branches_use_it
decreases-branches_use_it l = 4 * l.parent.0 + 1

abbrev pub invariant-branches_use_it-branches : goal.invariant-branches_use_it-branches
invariant-branches_use_it-branches l =
    (l.i ≤ length l.branches) × (branches_use (branches_from (term_of l.terms) l.branches) l.x ≡ branches_use (branches_from (term_of l.terms) (drop l.i l.branches)) l.x)

abbrev pub decreases-branches_use_it-branches : goal.decreases-branches_use_it-branches
decreases-branches_use_it-branches l = length l.branches - l.i

abbrev pub invariant-uses-line : goal.invariant-uses-line
invariant-uses-line l = UsesSoFar l.fn.x l.terms l.fn.id.0 l.last.0 l.node

abbrev pub decreases-uses-line : goal.decreases-uses-line
decreases-uses-line l = l.last.0
