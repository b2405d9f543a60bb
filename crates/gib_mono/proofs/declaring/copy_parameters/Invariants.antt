use Rattle.std.proofs.Common.{length}
use Rattle.gib_mono.proofs.Declarations.{ParametersSoFar}
use Rattle.gib_mono.proofs.declaring.copy_parameters.Given as goal

abbrev pub invariant-parameters : goal.invariant-parameters
invariant-parameters l = ParametersSoFar l.source.exprs.words l.fn.copier l.copier l.copied.items l.rest l.parameters

abbrev pub decreases-parameters : goal.decreases-parameters
decreases-parameters l = length l.rest
