use Rattle.std.proofs.lemmas.Result.{IfOk-weaker}
use Rattle.gib_words.proofs.Adding.{adds_rule}
use Rattle.gib_words.proofs.commands.with_run_options.Goals as goal

pub returns : goal.returns
returns c = IfOk-weaker c.arg.result _ _ (λ command adds. adds_rule _ _ _ _ _ adds c.in_ok-with_worker_options.ensures c.flag.ensures.rule c.flag.ensures.local) c.arg.ensures
