use Rattle.std.proofs.Common.{length}
use Rattle.gib_local_parse.specs.Sources.{places_in}
use Rattle.gib_local_parse.proofs.DeclarationLoops.{DatasSoFar}
use Rattle.gib_local_parse.proofs.declarations.data_declarations.Given as goal

abbrev pub invariant-declarations : goal.invariant-declarations
invariant-declarations l = DatasSoFar (places_in l.source) l.tokens l.rest l.found.items

abbrev pub decreases-declarations : goal.decreases-declarations
decreases-declarations l = length l.rest
