use Rattle.std.proofs.Common.{length}
use Rattle.gib_local_parse.specs.Sources.{places_in}
use Rattle.gib_local_parse.proofs.DeclarationLoops.{ConstructorsSoFar}
use Rattle.gib_local_parse.proofs.declarations.constructors.Given as goal

abbrev pub invariant-constructors : goal.invariant-constructors
invariant-constructors l = ConstructorsSoFar (places_in l.source) l.tokens l.rest l.found.items

abbrev pub decreases-constructors : goal.decreases-constructors
decreases-constructors l = length l.rest
