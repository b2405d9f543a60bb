use Rattle.std.proofs.Common.{length}
use Rattle.gib_mono.proofs.Declarations.{ConstructorsSoFar}
use Rattle.gib_mono.proofs.declaring.copy_constructors.Given as goal

abbrev pub invariant-constructors : goal.invariant-constructors
invariant-constructors l = ConstructorsSoFar l.source.exprs.words l.fn.copier l.copier l.types l.copied.items l.rest l.constructors

abbrev pub decreases-constructors : goal.decreases-constructors
decreases-constructors l = length l.rest
