use Rattle.std.proofs.Common.{◌≡◌, ◌≤◌, length, map}
use Rattle.std.specs.List.{AllByRecursion}
use Rattle.gib_syntax.specs.GenericTyping.{variable_numbers}
use Rattle.gib_syntax.specs.Words.{IsTypeRun, type_in}
use Rattle.gib_check.specs.FirstFault as rule
use Rattle.gib_check.specs.NameViews.{generic_globals}
use Rattle.gib_check.proofs.heads.check_parts.Given as goal

abbrev pub invariant-parts : goal.invariant-parts
invariant-parts l =
    (rule.check_parts (generic_globals l.named).datas (variable_numbers l.variables) 0 (map (type_in l.named.exprs.words) l.runs) ≡ rule.check_parts (generic_globals l.named).datas (variable_numbers l.variables) l.behind (map (type_in l.named.exprs.words) l.rest)) × AllByRecursion (IsTypeRun l.named.exprs.words) l.rest

abbrev pub decreases-parts : goal.decreases-parts
decreases-parts l = length l.rest
