use Rattle.std.proofs.Common.{◌+◌, ◌*◌, max, length}
use Rattle.gib_infer.proofs.Calls.{ArgumentsSoFar}
use Rattle.gib_infer.proofs.Cases.{CaseSoFar}
use Rattle.gib_infer.proofs.Parting.{PartsSoFar}
use Rattle.gib_infer.proofs.walk.+infer.Given as goal

abbrev pub decreases-arguments : goal.decreases-arguments
decreases-arguments l = 8 * l.id.0

abbrev pub decreases-branch : goal.decreases-branch
decreases-branch l = 8 * l.id.0

abbrev pub decreases-put_branch : goal.decreases-put_branch
decreases-put_branch l = 8 * l.id.0 + 1

abbrev pub decreases-operation : goal.decreases-operation
decreases-operation l = 8 * max l.left.0 l.right.0 + 6

abbrev pub decreases-operation_line : goal.decreases-operation_line
decreases-operation_line l = 8 * max l.left.0 l.right.0 + 7

abbrev pub decreases-call_line : goal.decreases-call_line
decreases-call_line l = 8 * l.id.0 + 1

abbrev pub decreases-call_side : goal.decreases-call_side
decreases-call_side l = 8 * l.id.0 + 1

abbrev pub decreases-call_atom : goal.decreases-call_atom
decreases-call_atom l = 8 * l.id.0 + 2

abbrev pub decreases-make : goal.decreases-make
decreases-make l = 8 * l.id.0 + 1

abbrev pub decreases-let_in : goal.decreases-let_in
decreases-let_in l = 8 * max l.bound.value.0 l.body.0 + 7

abbrev pub decreases-let_par : goal.decreases-let_par
decreases-let_par l = 8 * max (max l.left.value.0 l.right.value.0) l.body.0 + 6

abbrev pub decreases-if_else : goal.decreases-if_else
decreases-if_else l = 8 * max (max l.condition.0 l.then_part.0) l.else_part.0 + 6

abbrev pub decreases-tuple : goal.decreases-tuple
decreases-tuple l = 8 * l.id.0 + 1

abbrev pub decreases-part_terms : goal.decreases-part_terms
decreases-part_terms l = 8 * l.id.0

abbrev pub decreases-let_several : goal.decreases-let_several
decreases-let_several l = 8 * max l.bound.now.value.0 l.body.0 + 7

abbrev pub decreases-par_several : goal.decreases-par_several
decreases-par_several l = 8 * max (max l.left.now.value.0 l.right.now.value.0) l.body.0 + 7

abbrev pub decreases-bound_names : goal.decreases-bound_names
decreases-bound_names l = 8 * l.bound.now.value.0 + 6

abbrev pub decreases-several_names : goal.decreases-several_names
decreases-several_names l = 8 * l.bound.now.value.0 + 4

abbrev pub decreases-case : goal.decreases-case
decreases-case l = 8 * l.id.0 + 2

abbrev pub decreases-line : goal.decreases-line
decreases-line l = 8 * l.id.0 + 3

abbrev pub decreases-side : goal.decreases-side
decreases-side l = 8 * l.id.0 + 4

abbrev pub decreases-bound_line : goal.decreases-bound_line
decreases-bound_line l = 8 * l.id.0 + 4

abbrev pub decreases-bound_side : goal.decreases-bound_side
decreases-bound_side l = 8 * l.id.0 + 5

abbrev pub decreases-atom : goal.decreases-atom
decreases-atom l = 8 * l.id.0 + 5

abbrev pub decreases-right_side : goal.decreases-right_side
decreases-right_side l = 8 * l.id.0 + 6

abbrev pub invariant-arguments-arguments : goal.invariant-arguments-arguments
invariant-arguments-arguments l = ArgumentsSoFar l.typed l.typed.exprs l.fn.id.0 l.fn.work l.work l.fn.bindings.items l.bindings.items l.ids l.left l.atoms.items

abbrev pub decreases-arguments-arguments : goal.decreases-arguments-arguments
decreases-arguments-arguments l = length l.left

abbrev pub invariant-case-constructors : goal.invariant-case-constructors
invariant-case-constructors l = CaseSoFar l.typed l.typed.exprs l.arms l.fn.work l.work l.branches.items l.ty l.next l.left

abbrev pub decreases-case-constructors : goal.decreases-case-constructors
decreases-case-constructors l = l.left

abbrev pub invariant-part_terms-parts : goal.invariant-part_terms-parts
invariant-part_terms-parts l = PartsSoFar l.typed l.typed.exprs l.fn.id.0 l.fn.work l.work l.ids l.left l.terms.items

abbrev pub decreases-part_terms-parts : goal.decreases-part_terms-parts
decreases-part_terms-parts l = length l.left
