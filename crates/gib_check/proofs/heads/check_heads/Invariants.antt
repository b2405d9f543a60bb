use Rattle.std.proofs.Common.{◌≡◌, [], length, map}
use Rattle.std.specs.List.{AllByRecursion}
use Rattle.gib_check.specs.FirstFault as rule
use Rattle.gib_check.specs.NameViews.{generic_globals}
use Rattle.gib_syntax.specs.GenericParts.{function_in, IsFunctionInside}
use Rattle.gib_check.proofs.heads.check_heads.Given as goal

abbrev pub invariant-functions : goal.invariant-functions
invariant-functions l =
    (rule.check_heads (generic_globals l.named).datas [] (map (function_in l.named.exprs) l.functions) ≡ rule.check_heads (generic_globals l.named).datas l.names (map (function_in l.named.exprs) l.rest)) × AllByRecursion (IsFunctionInside l.named.exprs) l.rest

abbrev pub decreases-functions : goal.decreases-functions
decreases-functions l = length l.rest
