use Rattle.std.proofs.Common.{◌∙◌, ap}
use Rattle.gib_core.specs.Meaning.{core_run}
use Rattle.gib_core.specs.Parts.{Parts, core_of}
use Rattle.gib_lower.specs.Lowering.{lower_program}
use Rattle.gib_app.proofs.lowering.lowered.Goals as goal

pub returns-in-Ok-clause-means : goal.returns-in-Ok-clause-means
returns-in-Ok-clause-means c = λ depth v. ap (λ (x : Parts). core_run (core_of x) depth v) c.in-Ok.ensures.core ∙ c.in_ok-marked.ensures.means depth v

pub returns-in-Ok-clause-code : goal.returns-in-Ok-clause-code
returns-in-Ok-clause-code c = c.in-Ok.ensures.code ∙ ap lower_program c.in_ok-marked.ensures.core
