use Rattle.gib_region.proofs.Counting.{count_begun}
use Rattle.gib_region.proofs.law.beginning_keeps_the_balance.Goals as goal

pub returns : goal.returns
returns c = λ m m' old tails at n g b. count_begun m old m' tails at n g b
