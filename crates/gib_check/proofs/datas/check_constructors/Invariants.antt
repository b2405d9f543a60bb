use Rattle.std.proofs.Common.{◌≡◌, length, map}
use Rattle.gib_check.specs.FirstFault as rule
use Rattle.gib_syntax.specs.GenericParts.{constructor_in}
use Rattle.gib_check.proofs.datas.check_constructors.Given as goal

abbrev pub invariant-constructors : goal.invariant-constructors
invariant-constructors l = rule.check_constructors l.fn.names (map (constructor_in l.exprs.words) l.constructors) ≡ rule.check_constructors l.names (map (constructor_in l.exprs.words) l.rest)

abbrev pub decreases-constructors : goal.decreases-constructors
decreases-constructors l = length l.rest
