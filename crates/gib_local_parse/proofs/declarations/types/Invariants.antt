use Rattle.std.proofs.Common.{length}
use Rattle.gib_local_parse.specs.Sources.{places_in}
use Rattle.gib_local_parse.proofs.DeclarationLoops.{TypesSoFar}
use Rattle.gib_local_parse.proofs.declarations.types.Given as goal

abbrev pub invariant-types : goal.invariant-types
invariant-types l = TypesSoFar (places_in l.source) l.tokens l.rest l.found.items

abbrev pub decreases-types : goal.decreases-types
decreases-types l = length l.rest
