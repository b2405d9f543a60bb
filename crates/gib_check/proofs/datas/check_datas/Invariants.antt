use Rattle.std.proofs.Common.{◌≡◌, [], length, map}
use Rattle.gib_check.specs.FirstFault as rule
use Rattle.gib_syntax.specs.GenericParts.{data_in}
use Rattle.gib_check.proofs.datas.check_datas.Given as goal

abbrev pub invariant-datas : goal.invariant-datas
invariant-datas l = rule.check_datas [] [] (map (data_in l.exprs.words) l.datas) ≡ rule.check_datas l.types l.constructors (map (data_in l.exprs.words) l.rest)

abbrev pub decreases-datas : goal.decreases-datas
decreases-datas l = length l.rest
