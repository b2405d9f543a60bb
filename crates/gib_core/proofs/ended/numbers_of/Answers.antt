use Rattle.std.proofs.Common.{drop, arith}
use Rattle.gib_core.proofs.EndedNumbers.{numbers_next}
use Rattle.gib_core.proofs.ended.numbers_of.Goals as goal

pub pairs-preserved : goal.pairs-preserved
pairs-preserved c = (
  omega (arith, c.pairs-test.true, c.pairs.invariant.0),
  numbers_next c.args.pairs.now c.pairs.i (record { function = 0; place = 0 }) c.add_pair.new.numbers c.pairs-test.true c.pairs.invariant.0
      (c.in_ok-add_pair.ensures (drop c.pairs.i c.args.pairs.now) c.pairs.invariant.1),
)
