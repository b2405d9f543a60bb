use Rattle.std.proofs.Common.{refl}
use Rattle.gib_core.proofs.cost_examples.sides.Goals as goal

-- src/cost_examples.rt
pub returns : goal.returns
returns c = (refl, refl, refl, refl)
