use Rattle.gib_region.proofs.Keeping.{fill_tails}
use Rattle.gib_region.proofs.law.filling_keeps_tails.Goals as goal

pub returns : goal.returns
returns c = λ m at bytes tails. fill_tails m at bytes tails
