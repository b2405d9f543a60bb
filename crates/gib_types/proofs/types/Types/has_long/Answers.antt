use Rattle.std.proofs.Common.{refl, ◌∙◌}
use Rattle.std.proofs.lemmas.Option.{slice_get-get_or}
use Rattle.gib_types.specs.Types.{forms_of}
use Rattle.gib_types.proofs.Counting.{long_next}
use Rattle.gib_types.proofs.types.Types.has_long.Goals as goal

pub loop-argument-init : goal.loop-argument-init
loop-argument-init c = refl

pub loop-argument-preserved : goal.loop-argument-preserved
loop-argument-preserved c =
    c.loop-argument.invariant ∙ long_next (forms_of c.args.self.now) c.args.arguments.now c.loop-argument.argument-index _ c.words.result
    (slice_get-get_or c.args.arguments.now c.loop-argument.argument-index _ c.loop-argument-test.true) c.words.ensures.count c.if-words-gt64.false
