use Rattle.std.proofs.Common.{◌≡◌, ◌++◌, length, map}
use Rattle.std.specs.List.{AllByRecursion}
use Rattle.gib_syntax.specs.GenericParts.{function_in, IsFunctionInside}
use Rattle.gib_syntax.specs.Parts.{function_tree, IsFunctionInside as IsInside}
use Rattle.gib_mono.specs.Bare.{IsPlainHere, bare_function, bare_tree}
use Rattle.gib_mono.proofs.plain.bare_functions.Given as goal

abbrev pub invariant-functions : goal.invariant-functions
invariant-functions l = (map (function_tree (bare_tree l.exprs)) l.made.items ++ map bare_function (map (function_in l.exprs) l.rest) ≡ map bare_function (map (function_in l.exprs) l.functions))
    × AllByRecursion (IsInside (length l.exprs.nodes)) l.made.items × AllByRecursion (IsFunctionInside l.exprs) l.rest × AllByRecursion IsPlainHere l.rest

abbrev pub decreases-functions : goal.decreases-functions
decreases-functions l = length l.rest
