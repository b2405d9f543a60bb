use Rattle.std.proofs.Common.{refl, subst}
use Rattle.std.specs.List.{AllByRecursion}
use Rattle.gib_mono.specs.Bare.{AreSingleTrees, IsPlainHere, IsPlainKept}
use Rattle.gib_mono.proofs.Baring.{program_plain}
use Rattle.gib_mono.proofs.plain.is_plain.Goals as goal

pub returns-clause-plain : goal.returns-clause-plain
returns-clause-plain c = λ e.
    program_plain c.args.program.now c.datas.ensures.inside (subst (AllByRecursion IsPlainKept) c.datas.ensures.value (c.if-not-are_plain_datas.ensures refl)) (subst (AllByRecursion IsPlainHere) c.functions.ensures.value (c.if-not-are_plain_functions.ensures refl))
    (subst AreSingleTrees c.exprs.ensures.value (c.are_single.ensures e))

pub returns-clause-single : goal.returns-clause-single
returns-clause-single c = λ e. subst AreSingleTrees c.exprs.ensures.value (c.are_single.ensures e)
