use Rattle.std.proofs.Common.{◌≡◌, ◌≤◌, ◌+◌, ◌*◌, max, length, drop}
use Rattle.gib_syntax.specs.Spelling.{spell_arguments, spell_further_parts}
use Rattle.gib_syntax.specs.GenericArena.{arguments_from, tree_of}
use Rattle.gib_syntax.specs.Printing.{spell_further}
use Rattle.gib_syntax.proofs.print.+expressions.Given as goal

abbrev pub decreases-put_expression : goal.decreases-put_expression
decreases-put_expression l = 6 * l.id.0 + 5

abbrev pub decreases-put_operation : goal.decreases-put_operation
decreases-put_operation l = 6 * max l.left.0 l.right.0 + 7

abbrev pub decreases-put_let : goal.decreases-put_let
decreases-put_let l = 6 * l.id.0 + 4

abbrev pub decreases-put_choice : goal.decreases-put_choice
decreases-put_choice l = 6 * l.id.0 + 4

abbrev pub decreases-put_case : goal.decreases-put_case
decreases-put_case l = 6 * l.whole.0 + 3

abbrev pub decreases-put_behind : goal.decreases-put_behind
decreases-put_behind l = 6 * l.id.0 + 6

abbrev pub decreases-put_binding : goal.decreases-put_binding
decreases-put_binding l = 6 * l.id.0 + 7

abbrev pub decreases-put_tuple : goal.decreases-put_tuple
decreases-put_tuple l = 6 * l.whole.0 + 3

abbrev pub decreases-put_parts : goal.decreases-put_parts
decreases-put_parts l = 6 * l.whole.0 + 2

abbrev pub decreases-put_further_parts : goal.decreases-put_further_parts
decreases-put_further_parts l = 6 * l.whole.0 + 1

abbrev pub invariant-put_further_parts-parts : goal.invariant-put_further_parts-parts
invariant-put_further_parts-parts l = (l.i ≤ length l.ids) × (l.out ≡ spell_further_parts (arguments_from (tree_of l.exprs) (drop l.i l.ids)) l.fn.out)

abbrev pub decreases-put_further_parts-parts : goal.decreases-put_further_parts-parts
decreases-put_further_parts-parts l = l.i

abbrev pub decreases-put_arm : goal.decreases-put_arm
decreases-put_arm l = 6 * l.arm.now.body.0 + 7

abbrev pub decreases-put_arguments : goal.decreases-put_arguments
decreases-put_arguments l = 6 * l.whole.0 + 1

abbrev pub decreases-put_arms : goal.decreases-put_arms
decreases-put_arms l = 6 * l.whole.0 + 2

abbrev pub invariant-put_arguments-arguments : goal.invariant-put_arguments-arguments
invariant-put_arguments-arguments l = (l.i ≤ length l.ids) × (l.out ≡ spell_arguments (arguments_from (tree_of l.exprs) (drop l.i l.ids)) l.fn.out)

abbrev pub decreases-put_arguments-arguments : goal.decreases-put_arguments-arguments
decreases-put_arguments-arguments l = l.i

abbrev pub invariant-put_arms-arms : goal.invariant-put_arms-arms
invariant-put_arms-arms l = (1 ≤ l.i) × (l.i ≤ length l.arms) × (l.out ≡ spell_further (tree_of l.exprs) (drop l.i l.arms) l.fn.out)

abbrev pub decreases-put_arms-arms : goal.decreases-put_arms-arms
decreases-put_arms-arms l = l.i
