use Rattle.gib_region.proofs.Counting.{unwinds}
use Rattle.gib_region.proofs.law.ending_keeps_the_balance.Goals as goal

pub returns-clause-unwinds : goal.returns-clause-unwinds
returns-clause-unwinds c = λ n k b. unwinds n k b
