use Rattle.gib_region.proofs.Keeping.{begins_owned}
use Rattle.gib_region.proofs.law.beginning_owns.Goals as goal

pub returns : goal.returns
returns c = λ m m' old tails at. begins_owned m old m' tails at
