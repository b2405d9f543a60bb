use Rattle.std.proofs.Common.{refl}
use Rattle.gib_core.proofs.cost_examples.adding_one.Goals as goal

-- src/cost_examples.rt
pub returns-clause-once : goal.returns-clause-once
returns-clause-once c = (refl, refl, refl, refl)

pub returns-clause-nested : goal.returns-clause-nested
returns-clause-nested c = (refl, refl, refl, refl)
