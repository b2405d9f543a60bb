use Rattle.std.proofs.Common.{length}
use Rattle.gib_mono.proofs.Declarations.{NamesSoFar}
use Rattle.gib_mono.proofs.declaring.type_names.Given as goal

abbrev pub invariant-places : goal.invariant-places
invariant-places l = NamesSoFar l.copier l.places l.types l.spans l.left l.names.items

abbrev pub decreases-places : goal.decreases-places
decreases-places l = length l.spans
