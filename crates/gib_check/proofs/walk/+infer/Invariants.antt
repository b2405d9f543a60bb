use Rattle.std.proofs.Common.{◌+◌, ◌*◌, length}
use Rattle.gib_check.proofs.Loops.{ArgumentsSoFar, ArmsSoFar}
use Rattle.gib_check.proofs.walk.+infer.Given as goal

abbrev pub decreases-infer : goal.decreases-infer
decreases-infer l = 6 * l.id.0 + 5

abbrev pub decreases-infer_choice : goal.decreases-infer_choice
decreases-infer_choice l = 6 * l.id.0 + 4

abbrev pub decreases-infer_binding : goal.decreases-infer_binding
decreases-infer_binding l = 6 * l.id.0 + 4

abbrev pub decreases-tuple : goal.decreases-tuple
decreases-tuple l = 6 * l.at.id.0 + 3

abbrev pub decreases-operation : goal.decreases-operation
decreases-operation l = 6 * l.at.id.0 + 3

abbrev pub decreases-call : goal.decreases-call
decreases-call l = 6 * l.id.0 + 3

abbrev pub decreases-make : goal.decreases-make
decreases-make l = 6 * l.id.0 + 3

abbrev pub decreases-infer_let : goal.decreases-infer_let
decreases-infer_let l = 6 * l.at.id.0 + 3

abbrev pub decreases-infer_par : goal.decreases-infer_par
decreases-infer_par l = 6 * l.at.id.0 + 3

abbrev pub decreases-if_else : goal.decreases-if_else
decreases-if_else l = 6 * l.at.id.0 + 3

abbrev pub decreases-case : goal.decreases-case
decreases-case l = 6 * l.at.id.0 + 3

abbrev pub decreases-arguments : goal.decreases-arguments
decreases-arguments l = 6 * l.id.0 + 2

abbrev pub decreases-arm_results : goal.decreases-arm_results
decreases-arm_results l = 6 * l.at.id.0 + 2

abbrev pub decreases-arm_result : goal.decreases-arm_result
decreases-arm_result l = 6 * l.at.id.0 + 1

abbrev pub invariant-arguments-arguments : goal.invariant-arguments-arguments
invariant-arguments-arguments l = ArgumentsSoFar l.around.named.now l.around.variables.now l.fn.id.0 l.fn.state l.state l.ids l.rest l.parts.items

abbrev pub decreases-arguments-arguments : goal.decreases-arguments-arguments
decreases-arguments-arguments l = length l.rest

abbrev pub invariant-arm_results-arms : goal.invariant-arm_results-arms
invariant-arm_results-arms l = ArmsSoFar l.around.named.now l.around.variables.now l.at.standing l.at.id.0 l.fn.state l.state l.types l.arms l.rest l.parts.items

abbrev pub decreases-arm_results-arms : goal.decreases-arm_results-arms
decreases-arm_results-arms l = length l.rest
