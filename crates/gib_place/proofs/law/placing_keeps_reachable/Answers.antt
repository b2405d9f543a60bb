use Rattle.gib_place.proofs.Built.{core_reachable}
use Rattle.gib_place.proofs.law.placing_keeps_reachable.Goals as goal

-- src/law.rt
pub returns : goal.returns
returns c = core_reachable
