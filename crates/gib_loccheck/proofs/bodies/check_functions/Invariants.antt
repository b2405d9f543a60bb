use Rattle.std.proofs.Common.{length}
use Rattle.gib_core.specs.Arena.{term_of}
use Rattle.gib_core.specs.Parts.{core_of}
use Rattle.gib_loccheck.proofs.OneBody.{FunctionsSoFar}
use Rattle.gib_loccheck.proofs.bodies.check_functions.Given as goal

abbrev pub invariant-functions : goal.invariant-functions
invariant-functions l = FunctionsSoFar (core_of l.core) l.fn.walk.place l.walk.place (term_of l.core.terms) l.functions l.left (length l.core.terms)

abbrev pub decreases-functions : goal.decreases-functions
decreases-functions l = length l.left
