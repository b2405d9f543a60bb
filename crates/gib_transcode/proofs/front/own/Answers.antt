use Rattle.std.proofs.Common.{arith}
use Rattle.gib_transcode.proofs.Digits.{nth_own}
use Rattle.gib_transcode.proofs.front.own.Goals as goal

pub overflow_add-result : goal.overflow_add-result
overflow_add-result c =
    let own = nth_own c.args.types.now c.args.of.0 c.first_of.result.0 c.args.number c.stand_together.ensures c.first_of.ensures c.requires.number in
    omega (arith, (c.tags_invert.ensures.back _ _ _ own).1, c.rules.ensures.few)

pub returns-clause-own : goal.returns-clause-own
returns-clause-own c = nth_own c.args.types.now c.args.of.0 c.first_of.result.0 c.args.number c.stand_together.ensures c.first_of.ensures c.requires.number

pub returns-clause-within : goal.returns-clause-within
returns-clause-within c =
    let own = nth_own c.args.types.now c.args.of.0 c.first_of.result.0 c.args.number c.stand_together.ensures c.first_of.ensures c.requires.number in
    (c.tags_invert.ensures.back _ _ _ own).1
