use Rattle.std.proofs.Common.{◌≡◌, length, map}
use Rattle.std.specs.List.{AllByRecursion}
use Rattle.gib_check.specs.FirstFault as rule
use Rattle.gib_check.specs.NameViews.{generic_globals}
use Rattle.gib_syntax.specs.GenericParts.{data_in, IsDataInside}
use Rattle.gib_check.proofs.datas.check_fields.Given as goal

abbrev pub invariant-datas : goal.invariant-datas
invariant-datas l =
    (rule.check_fields (generic_globals l.named).datas (map (data_in l.named.exprs.words) l.datas) ≡ rule.check_fields (generic_globals l.named).datas (map (data_in l.named.exprs.words) l.rest)) × AllByRecursion (IsDataInside l.named.exprs.words) l.rest

abbrev pub decreases-datas : goal.decreases-datas
decreases-datas l = length l.rest
