use Rattle.gib_region.proofs.Keeping.{finished_owned}
use Rattle.gib_region.proofs.law.finishing_owns.Goals as goal

pub returns : goal.returns
returns c = λ s tails at. finished_owned s tails at
