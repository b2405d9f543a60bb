use Rattle.std.proofs.Common.{length}
use Rattle.gib_local_parse.specs.Sources.{places_in}
use Rattle.gib_local_parse.proofs.DeclarationLoops.{ListedSoFar}
use Rattle.gib_local_parse.proofs.declarations.listed.Given as goal

abbrev pub invariant-constructors : goal.invariant-constructors
invariant-constructors l = ListedSoFar (places_in l.source) l.tokens l.rest l.found.items

abbrev pub decreases-constructors : goal.decreases-constructors
decreases-constructors l = length l.rest
