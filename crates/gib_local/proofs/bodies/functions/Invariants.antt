use Rattle.std.proofs.Common.{length}
use Rattle.gib_local_parse.specs.LineArena.{tree_of}
use Rattle.gib_local.specs.Builds.{program_in}
use Rattle.gib_local.proofs.Bodying.{FunctionsSoFar}
use Rattle.gib_local.proofs.bodies.functions.Given as goal

abbrev pub invariant-functions : goal.invariant-functions
invariant-functions l = FunctionsSoFar (program_in l.source) (tree_of l.source.lines) (length l.source.lines) l.fn.builder l.builder l.source.functions l.rest l.functions.items

abbrev pub decreases-functions : goal.decreases-functions
decreases-functions l = length l.rest
