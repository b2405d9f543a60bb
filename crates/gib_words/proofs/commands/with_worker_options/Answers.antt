use Rattle.std.proofs.Common.{refl}
use Rattle.std.proofs.lemmas.Result.{IfOk-weaker}
use Rattle.gib_words.proofs.Adding.{adds_rule}
use Rattle.gib_words.proofs.commands.with_worker_options.Goals as goal

pub returns : goal.returns
returns c =
    let one = adds_rule _ _ _ _ _ c.in_ok-arg.ensures refl c.number.ensures.rule c.number.ensures.local in
    let two = adds_rule _ _ _ _ _ c.in_ok-arg-2.ensures one c.depth.ensures.rule c.depth.ensures.local in
    let three = adds_rule _ _ _ _ _ c.in_ok-arg-3.ensures two c.number-2.ensures.rule c.number-2.ensures.local in
    IfOk-weaker c.arg-4.result _ _ (λ command adds. adds_rule _ _ _ _ _ adds three c.number-3.ensures.rule c.number-3.ensures.local) c.arg-4.ensures
