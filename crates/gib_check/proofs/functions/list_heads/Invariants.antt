use Rattle.std.proofs.Common.{◌≡◌, ◌++◌, length, map}
use Rattle.gib_check.specs.Functions.{head_of, head_in}
use Rattle.gib_check.proofs.functions.list_heads.Given as goal

abbrev pub invariant-functions : goal.invariant-functions
invariant-functions l = map head_of l.heads.items ++ map (head_in l.types) l.rest ≡ map (head_in l.types) l.functions

abbrev pub decreases-functions : goal.decreases-functions
decreases-functions l = length l.rest
