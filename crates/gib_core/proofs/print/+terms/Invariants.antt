use Rattle.std.proofs.Common.{◌≡◌, ◌≤◌, ◌+◌, ◌*◌, length, drop}
use Rattle.gib_core.specs.Arena.{term_in, term_of, binds_from, parts_from, branches_from}
use Rattle.gib_core.specs.CoreText.{spell_parts, spell_branches}
use Rattle.gib_core.proofs.Spelling.{spell_binds}
use Rattle.gib_core.proofs.print.+terms.Given as goal

abbrev pub decreases-put_term : goal.decreases-put_term
decreases-put_term l = 4 * l.id.0 + 3

abbrev pub decreases-put_end : goal.decreases-put_end
decreases-put_end l = 4 * l.id.0 + 2

abbrev pub decreases-put_binding : goal.decreases-put_binding
decreases-put_binding l = 4 * l.parent.0 + 2

abbrev pub decreases-put_side : goal.decreases-put_side
decreases-put_side l = 4 * (term_in l.side).0 + 5

abbrev pub decreases-put_bound : goal.decreases-put_bound
decreases-put_bound l = 4 * l.side.term.0 + 4

abbrev pub decreases-put_several : goal.decreases-put_several
decreases-put_several l = 4 * l.parts.term.0 + 4

abbrev pub decreases-put_parts : goal.decreases-put_parts
decreases-put_parts l = 4 * l.parent.0 + 1

abbrev pub invariant-put_parts-parts : goal.invariant-put_parts-parts
invariant-put_parts-parts l = (l.i ≤ length l.parts) × (l.out ≡ spell_parts l.from.ended.now l.level (parts_from (term_of l.from.terms.now) (drop l.i l.parts)) l.fn.out)

abbrev pub decreases-put_parts-parts : goal.decreases-put_parts-parts
decreases-put_parts-parts l = l.i

abbrev pub decreases-put_branches : goal.decreases-put_branches
decreases-put_branches l = 4 * l.parent.0 + 1

abbrev pub invariant-put_branches-branches : goal.invariant-put_branches-branches
invariant-put_branches-branches l = (l.i ≤ length l.branches) × (l.out ≡ spell_branches l.from.ended.now l.level (branches_from (term_of l.from.terms.now) (drop l.i l.branches)) l.fn.out)

abbrev pub decreases-put_branches-branches : goal.decreases-put_branches-branches
decreases-put_branches-branches l = l.i

abbrev pub invariant-put_term-bindings : goal.invariant-put_term-bindings
invariant-put_term-bindings l =
    (l.i ≤ length l.bindings.items)
    × (l.out ≡ spell_binds l.from.ended.now l.level (binds_from (term_of l.from.terms.now) (drop l.i l.bindings.items)) l.initial.out)

abbrev pub decreases-put_term-bindings : goal.decreases-put_term-bindings
decreases-put_term-bindings l = l.i
