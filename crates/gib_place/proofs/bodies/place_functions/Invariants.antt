use Rattle.std.proofs.Common.{length, reverse}
use Rattle.gib_place.proofs.Programs.{FunctionsSoFar}
use Rattle.gib_place.proofs.bodies.place_functions.Given as goal

abbrev pub invariant-functions : goal.invariant-functions
invariant-functions l = FunctionsSoFar l.terms l.fn.made l.made l.fn.functions.items l.functions.items (reverse l.reversed.items)

abbrev pub decreases-functions : goal.decreases-functions
decreases-functions l = length l.functions.items
