use Rattle.gib_place.proofs.Sources.{core_kept, core_left}
use Rattle.gib_place.proofs.law.placing_keeps_the_source.Goals as goal

-- src/law.rt
pub returns-clause-placed : goal.returns-clause-placed
returns-clause-placed c = core_kept

pub returns-clause-numbered : goal.returns-clause-numbered
returns-clause-numbered c = core_left
