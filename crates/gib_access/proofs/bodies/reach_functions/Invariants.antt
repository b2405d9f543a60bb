use Rattle.std.proofs.Common.{length, reverse}
use Rattle.gib_access.specs.Sources.{way_of}
use Rattle.gib_access.proofs.Programs.{FunctionsSoFar}
use Rattle.gib_access.proofs.bodies.reach_functions.Given as goal

abbrev pub invariant-functions : goal.invariant-functions
invariant-functions l = FunctionsSoFar (way_of l.source) l.source.terms.now l.fn.work l.work l.fn.functions.items l.functions.items (reverse l.reversed.items)

abbrev pub decreases-functions : goal.decreases-functions
decreases-functions l = length l.functions.items
