use Rattle.gib_region.proofs.Keeping.{placed_tails}
use Rattle.gib_region.proofs.law.placing_keeps_tails.Goals as goal

pub returns : goal.returns
returns c = λ m m' at k a tails. placed_tails m at k m' a tails
