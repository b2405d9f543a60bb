use Rattle.std.proofs.Common.{length}
use Rattle.gib_mono.proofs.Finding.{ParametersAsked}
use Rattle.gib_mono.proofs.find.ask_parameters.Given as goal

abbrev pub invariant-parameters : goal.invariant-parameters
invariant-parameters l = ParametersAsked l.source l.fn.search l.search l.parameters l.rest

abbrev pub decreases-parameters : goal.decreases-parameters
decreases-parameters l = length l.rest
