use Rattle.std.proofs.Common.{◌≡◌, ◌≤◌, ◌+◌, ◌*◌, ◌-◌, length, drop}
use Rattle.gib_core.specs.Arena.{term_of, branches_from}
use Rattle.gib_core.specs.Ending.{all_known, lasts_known}
use Rattle.gib_core.proofs.KnownLine.{KnownSoFar}
use Rattle.gib_core.proofs.known.+known.Given as goal

abbrev pub decreases-is_known : goal.decreases-is_known
decreases-is_known l = 4 * l.id.0 + 3

abbrev pub decreases-end_known : goal.decreases-end_known
decreases-end_known l = 4 * l.id.0 + 2

abbrev pub decreases-all_known : goal.decreases-all_known
decreases-all_known l = 4 * l.parent.0 + 1

abbrev pub decreases-lasts_known : goal.decreases-lasts_known
decreases-lasts_known l = 4 * l.parent.0 + 1

abbrev pub decreases-last_known : goal.decreases-last_known
decreases-last_known l = 4 * l.parent.0

abbrev pub invariant-all_known-branches : goal.invariant-all_known-branches
invariant-all_known-branches l =
    (l.i ≤ length l.branches) × (all_known l.types l.ended (branches_from (term_of l.terms) l.branches) l.z ≡ all_known l.types l.ended (branches_from (term_of l.terms) (drop l.i l.branches)) l.z)

abbrev pub decreases-all_known-branches : goal.decreases-all_known-branches
decreases-all_known-branches l = length l.branches - l.i

abbrev pub invariant-lasts_known-branches : goal.invariant-lasts_known-branches
invariant-lasts_known-branches l =
    (l.i ≤ length l.branches) × (lasts_known l.types l.ended (branches_from (term_of l.terms) l.branches) ≡ lasts_known l.types l.ended (branches_from (term_of l.terms) (drop l.i l.branches)))

abbrev pub decreases-lasts_known-branches : goal.decreases-lasts_known-branches
decreases-lasts_known-branches l = length l.branches - l.i

abbrev pub invariant-is_known-line : goal.invariant-is_known-line
invariant-is_known-line l = KnownSoFar l.types l.ended l.fn.z l.terms l.fn.id.0 l.last.0 l.node

abbrev pub decreases-is_known-line : goal.decreases-is_known-line
decreases-is_known-line l = l.last.0
