use Rattle.std.proofs.Common.{◌≡◌, ◌++◌, length, map}
use Rattle.gib_local.specs.Knowing.{function_number}
use Rattle.gib_local.proofs.known.list_functions.Given as goal

abbrev pub invariant-functions : goal.invariant-functions
invariant-functions l = l.names ++ map function_number l.rest ≡ map function_number l.functions

abbrev pub decreases-functions : goal.decreases-functions
decreases-functions l = length l.rest
