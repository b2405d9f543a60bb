use Rattle.std.proofs.Common.{◌+◌, ◌*◌, max, length}
use Rattle.gib_types.specs.Types.{forms_at}
use Rattle.gib_syntax.specs.GenericArena.{tree_of}
use Rattle.gib_mono.specs.Scenes.{forms}
use Rattle.gib_mono.specs.Sources.{globals_in}
use Rattle.gib_mono.proofs.Making.{ArgumentsCopied, ArmsCopied, TupleCopied}
use Rattle.gib_mono.proofs.copying.+copy.Given as goal

abbrev pub decreases-copy_arguments : goal.decreases-copy_arguments
decreases-copy_arguments l = 4 * l.id.0

abbrev pub decreases-copy_arm : goal.decreases-copy_arm
decreases-copy_arm l = 4 * l.id.0

abbrev pub decreases-copy_arms : goal.decreases-copy_arms
decreases-copy_arms l = 4 * l.id.0 + 1

abbrev pub decreases-copy_case : goal.decreases-copy_case
decreases-copy_case l = 4 * l.id.0 + 2

abbrev pub decreases-copy_tuple_parts : goal.decreases-copy_tuple_parts
decreases-copy_tuple_parts l = 4 * l.id.0

abbrev pub decreases-copy_tuple : goal.decreases-copy_tuple
decreases-copy_tuple l = 4 * l.id.0 + 1

abbrev pub invariant-copy_tuple_parts-parts : goal.invariant-copy_tuple_parts-parts
invariant-copy_tuple_parts-parts l = TupleCopied (globals_in l.source) (tree_of l.source.exprs) l.fn.id.0 l.fn.copier l.copier l.ids l.rest l.exprs.items l.types.items

abbrev pub decreases-copy_tuple_parts-parts : goal.decreases-copy_tuple_parts-parts
decreases-copy_tuple_parts-parts l = length l.rest

abbrev pub decreases-copy_call : goal.decreases-copy_call
decreases-copy_call l = 4 * l.id.0 + 1

abbrev pub decreases-copy_make : goal.decreases-copy_make
decreases-copy_make l = 4 * l.id.0 + 1

abbrev pub decreases-copy_expression : goal.decreases-copy_expression
decreases-copy_expression l = 4 * l.id.0 + 3

abbrev pub decreases-copy_paren : goal.decreases-copy_paren
decreases-copy_paren l = 4 * l.inner.0 + 4

abbrev pub decreases-copy_operation : goal.decreases-copy_operation
decreases-copy_operation l = 4 * max l.left.0 l.right.0 + 4

abbrev pub decreases-copy_let : goal.decreases-copy_let
decreases-copy_let l = 4 * max l.bound.0 l.body.0 + 4

abbrev pub decreases-copy_let_par : goal.decreases-copy_let_par
decreases-copy_let_par l = 4 * max (max l.left.now.value.0 l.right.now.value.0) l.body.0 + 4

abbrev pub decreases-copy_if : goal.decreases-copy_if
decreases-copy_if l = 4 * max (max l.condition.0 l.then_part.0) l.else_part.0 + 4

abbrev pub invariant-copy_arguments-arguments : goal.invariant-copy_arguments-arguments
invariant-copy_arguments-arguments l = ArgumentsCopied (globals_in l.source) (tree_of l.source.exprs) l.fn.id.0 l.fn.copier l.copier l.ids l.rest l.copied.items

abbrev pub decreases-copy_arguments-arguments : goal.decreases-copy_arguments-arguments
decreases-copy_arguments-arguments l = length l.rest

abbrev pub invariant-copy_arms-arms : goal.invariant-copy_arms-arms
invariant-copy_arms-arms l = ArmsCopied (globals_in l.source) (tree_of l.source.exprs) l.fn.id.0 l.fn.copier l.copier (forms_at (forms l.fn.copier.scene) l.types) l.fn.copied.items l.copied.items l.arms l.rest

abbrev pub decreases-copy_arms-arms : goal.decreases-copy_arms-arms
decreases-copy_arms-arms l = length l.rest
