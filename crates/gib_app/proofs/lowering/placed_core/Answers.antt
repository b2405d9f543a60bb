use Rattle.std.proofs.Common.{◌∙◌}
use Rattle.gib_app.proofs.lowering.placed_core.Goals as goal

pub returns-in-Ok-clause-means : goal.returns-in-Ok-clause-means
returns-in-Ok-clause-means c = λ depth v. c.in-Ok.ensures.run c.in_ok-core.ensures.numbered depth v ∙ c.in_ok-core.ensures.main depth v
