use Rattle.gib_region.proofs.Counting.{counted}
use Rattle.gib_region.proofs.law.placing_keeps_the_balance.Goals as goal

pub returns : goal.returns
returns c = λ m m' at k a n p h few b. counted m at k m' a n p h few b
