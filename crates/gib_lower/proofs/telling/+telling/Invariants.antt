use Rattle.std.proofs.Common.{◌≡◌, ◌≤◌, ◌+◌, ◌*◌, ◌-◌, length, drop}
use Rattle.gib_core.specs.Arena.{term_of, binds_from, branches_from, parts_from}
use Rattle.gib_core.specs.Ending.{branches_telling, parts_telling}
use Rattle.gib_lower.proofs.TellingLine.{binds_tell}
use Rattle.gib_lower.proofs.telling.+telling.Given as goal

abbrev pub decreases-has_telling : goal.decreases-has_telling
decreases-has_telling l = 4 * l.id.0 + 3

abbrev pub decreases-binding_tells : goal.decreases-binding_tells
decreases-binding_tells l = 4 * l.parent.0 + 2

abbrev pub decreases-end_tells : goal.decreases-end_tells
decreases-end_tells l = 4 * l.id.0 + 2

abbrev pub decreases-branches_tell : goal.decreases-branches_tell
decreases-branches_tell l = 4 * l.parent.0 + 1

abbrev pub invariant-branches_tell-branches : goal.invariant-branches_tell-branches
invariant-branches_tell-branches l =
    (l.i ≤ length l.branches) × (branches_telling l.ended (branches_from (term_of l.terms) l.branches) ≡ branches_telling l.ended (branches_from (term_of l.terms) (drop l.i l.branches)))

abbrev pub decreases-branches_tell-branches : goal.decreases-branches_tell-branches
decreases-branches_tell-branches l = length l.branches - l.i

abbrev pub decreases-parts_tell : goal.decreases-parts_tell
decreases-parts_tell l = 4 * l.parent.0 + 1

abbrev pub invariant-parts_tell-parts : goal.invariant-parts_tell-parts
invariant-parts_tell-parts l = (l.i ≤ length l.parts) × (parts_telling l.ended (parts_from (term_of l.terms) l.parts) ≡ parts_telling l.ended (parts_from (term_of l.terms) (drop l.i l.parts)))

abbrev pub decreases-parts_tell-parts : goal.decreases-parts_tell-parts
decreases-parts_tell-parts l = length l.parts - l.i

abbrev pub invariant-has_telling-bindings : goal.invariant-has_telling-bindings
invariant-has_telling-bindings l = record {
  within : l.i ≤ length l.bindings.items;
  so_far : l.tells ≡ binds_tell l.ended (binds_from (term_of l.terms) (drop l.i l.bindings.items)) l.initial.tells;
}

abbrev pub decreases-has_telling-bindings : goal.decreases-has_telling-bindings
decreases-has_telling-bindings l = l.i
