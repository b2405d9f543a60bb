use Rattle.std.proofs.Common.{arith, refl}
use Rattle.std.proofs.lemmas.Option.{slice_get-get_or}
use Rattle.gib_types.specs.Types.{forms_of, forms_at}
use Rattle.gib_types.specs.Form.{all_words}
use Rattle.gib_types.proofs.Counting.{next_sum, last_sum, first_sum, next_place}
use Rattle.gib_types.proofs.types.Types.count_all.Goals as goal

pub loop-argument-init : goal.loop-argument-init
loop-argument-init c = (omega arith, first_sum (all_words (forms_at (forms_of c.args.self.now) c.args.arguments.now)) _ refl)

pub cut_sum-sum-requires-clause-left : goal.cut_sum-sum-requires-clause-left
cut_sum-sum-requires-clause-left c = c.loop-argument.invariant.0

pub loop-argument-preserved : goal.loop-argument-preserved
loop-argument-preserved c = (
  c.cut_sum-sum.ensures.few,
  (let step = next_sum (forms_of c.args.self.now) c.args.arguments.now c.loop-argument.argument-index _ c.loop-argument.sum c.words-words.result c.cut_sum-sum.result _
      (slice_get-get_or c.args.arguments.now c.loop-argument.argument-index _ c.loop-argument-test.true) c.words-words.ensures.count c.cut_sum-sum.ensures.sum c.loop-argument.invariant.1 in
      next_place (forms_of c.args.self.now) c.args.arguments.now c.cut_sum-sum.result c.loop-argument.argument-index _ step),
)

pub returns : goal.returns
returns c = last_sum (forms_of c.args.self.now) c.args.arguments.now c.loop-argument.argument-index c.loop-argument.sum _ (omega (arith, c.loop-argument-test.false)) c.loop-argument.invariant.0 c.loop-argument.invariant.1
