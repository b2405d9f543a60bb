use Rattle.std.proofs.Common.{◌≡◌, length, map}
use Rattle.std.specs.List.{AllByRecursion}
use Rattle.gib_check.specs.FirstFault as rule
use Rattle.gib_check.specs.NameViews.{generic_globals}
use Rattle.gib_syntax.specs.GenericTyping.{variable_numbers}
use Rattle.gib_syntax.specs.GenericParts.{constructor_in, IsConstructorInside}
use Rattle.gib_check.proofs.datas.check_constructor_fields.Given as goal

abbrev pub invariant-constructors : goal.invariant-constructors
invariant-constructors l =
    (rule.check_constructor_fields (generic_globals l.named).datas (variable_numbers l.variables) (map (constructor_in l.named.exprs.words) l.constructors) ≡ rule.check_constructor_fields (generic_globals l.named).datas (variable_numbers l.variables) (map (constructor_in l.named.exprs.words) l.rest)) × AllByRecursion (IsConstructorInside l.named.exprs.words) l.rest

abbrev pub decreases-constructors : goal.decreases-constructors
decreases-constructors l = length l.rest
