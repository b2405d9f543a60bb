use Rattle.std.proofs.Common.{length}
use Rattle.gib_local_parse.specs.Sources.{places_in}
use Rattle.gib_local_parse.proofs.DeclarationLoops.{ParametersSoFar}
use Rattle.gib_local_parse.proofs.declarations.parameters.Given as goal

abbrev pub invariant-parameters : goal.invariant-parameters
invariant-parameters l = ParametersSoFar (places_in l.source) l.tokens l.rest l.found.items

abbrev pub decreases-parameters : goal.decreases-parameters
decreases-parameters l = length l.rest
