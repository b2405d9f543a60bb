use Rattle.std.proofs.Common.{◌≡◌, ◌++◌, ◌+◌, ◌-◌, ◌*◌, [], length, drop}
use Rattle.gib_core.specs.Arena.{term_in, term_of, parts_from, branches_from}
use Rattle.gib_core.specs.Walk.{walk_parts, walk_branches}
use Rattle.gib_core.specs.Mentioned.{says}
use Rattle.gib_core.proofs.Listed.{LineListed}
use Rattle.gib_core.proofs.mentions.+list.Given as goal

abbrev pub decreases-list_term : goal.decreases-list_term
decreases-list_term l = 5 * l.id.0 + 4

abbrev pub decreases-list_end : goal.decreases-list_end
decreases-list_end l = 5 * l.id.0 + 3

abbrev pub decreases-list_binding : goal.decreases-list_binding
decreases-list_binding l = 5 * l.parent.0 + 2

abbrev pub decreases-list_side : goal.decreases-list_side
decreases-list_side l = 5 * (term_in l.side).0 + 5

abbrev pub decreases-list_branches : goal.decreases-list_branches
decreases-list_branches l = 5 * l.parent.0 + 1

abbrev pub decreases-list_branch : goal.decreases-list_branch
decreases-list_branch l = 5 * l.branch.now.term.0 + 5

abbrev pub decreases-list_parts : goal.decreases-list_parts
decreases-list_parts l = 5 * l.parent.0 + 1

abbrev pub invariant-list_parts-parts : goal.invariant-list_parts-parts
invariant-list_parts-parts l = l.mentions.items ++ walk_parts (◌++◌) [] says (parts_from (term_of l.terms) (drop l.i l.parts)) ≡ l.fn.mentions.items ++ walk_parts (◌++◌) [] says (parts_from (term_of l.terms) l.parts)

abbrev pub decreases-list_parts-parts : goal.decreases-list_parts-parts
decreases-list_parts-parts l = length l.parts - l.i

abbrev pub invariant-list_term-bindings : goal.invariant-list_term-bindings
invariant-list_term-bindings l = LineListed l.terms l.id.0 l.bindings.items l.i l.fn.mentions.items l.mentions.items

abbrev pub decreases-list_term-bindings : goal.decreases-list_term-bindings
decreases-list_term-bindings l = length l.bindings.items - l.i

abbrev pub invariant-list_branches-branches : goal.invariant-list_branches-branches
invariant-list_branches-branches l = l.mentions.items ++ walk_branches (◌++◌) [] says (branches_from (term_of l.terms) (drop l.i l.branches)) ≡ l.fn.mentions.items ++ walk_branches (◌++◌) [] says (branches_from (term_of l.terms) l.branches)

abbrev pub decreases-list_branches-branches : goal.decreases-list_branches-branches
decreases-list_branches-branches l = length l.branches - l.i
