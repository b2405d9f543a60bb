use Rattle.std.proofs.Common.{◌∙◌}
use Rattle.gib_app.proofs.lowering.marked_core.Goals as goal

pub returns-in-Ok-clause-means : goal.returns-in-Ok-clause-means
returns-in-Ok-clause-means c = λ depth v. c.forks.ensures.run depth v ∙ c.in-Ok.ensures.means depth v
