use Rattle.std.proofs.Common.{length}
use Rattle.std.specs.List.{AllByRecursion}
use Rattle.gib_mono.specs.Bare.{IsPlainKept}
use Rattle.gib_mono.proofs.plain.are_plain_datas.Given as goal

abbrev pub invariant-datas : goal.invariant-datas
invariant-datas l = AllByRecursion IsPlainKept l.rest → AllByRecursion IsPlainKept l.datas

abbrev pub decreases-datas : goal.decreases-datas
decreases-datas l = length l.rest
