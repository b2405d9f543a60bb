use Rattle.std.proofs.Common.{length}
use Rattle.std.specs.List.{AllByRecursion}
use Rattle.gib_mono.specs.Bare.{IsPlainHere}
use Rattle.gib_mono.proofs.plain.are_plain_functions.Given as goal

abbrev pub invariant-functions : goal.invariant-functions
invariant-functions l = AllByRecursion IsPlainHere l.rest → AllByRecursion IsPlainHere l.functions

abbrev pub decreases-functions : goal.decreases-functions
decreases-functions l = length l.rest
