use Rattle.gib_region.proofs.Placing.{leaves}
use Rattle.gib_region.proofs.law.placing_leaves.Goals as goal

pub returns : goal.returns
returns c = λ m m' at k a. leaves m at k m' a
