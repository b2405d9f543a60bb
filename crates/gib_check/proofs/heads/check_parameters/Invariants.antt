use Rattle.std.proofs.Common.{◌≡◌, [], length, map}
use Rattle.std.specs.List.{AllByRecursion}
use Rattle.gib_check.specs.FirstFault as rule
use Rattle.gib_check.specs.NameViews.{generic_globals}
use Rattle.gib_syntax.specs.GenericTyping.{variable_numbers}
use Rattle.gib_syntax.specs.GenericParts.{parameter_in, IsParameterInside}
use Rattle.gib_check.proofs.heads.check_parameters.Given as goal

abbrev pub invariant-parameters : goal.invariant-parameters
invariant-parameters l =
    (rule.check_parameters (generic_globals l.named).datas (variable_numbers l.variables) [] (map (parameter_in l.named.exprs.words) l.parameters) ≡ rule.check_parameters (generic_globals l.named).datas (variable_numbers l.variables) l.names (map (parameter_in l.named.exprs.words) l.rest)) × AllByRecursion (IsParameterInside l.named.exprs.words) l.rest

abbrev pub decreases-parameters : goal.decreases-parameters
decreases-parameters l = length l.rest
