use Rattle.std.proofs.Common.{length}
use Rattle.gib_local_parse.specs.Sources.{places_in}
use Rattle.gib_local_parse.proofs.DeclarationLoops.{FunctionsSoFar}
use Rattle.gib_local_parse.proofs.declarations.functions.Given as goal

abbrev pub invariant-functions : goal.invariant-functions
invariant-functions l = FunctionsSoFar l.fn.lines l.lines (places_in l.source) l.tokens l.rest l.found.items

abbrev pub decreases-functions : goal.decreases-functions
decreases-functions l = length l.rest
