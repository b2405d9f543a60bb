use Rattle.gib_core.proofs.Rising.{run_rises}
use Rattle.gib_core.proofs.law.costs_rise_with_the_forks.Goals as goal

-- src/law.rt
pub returns : goal.returns
returns c = λ core depth fewer forks v h. run_rises core depth fewer forks v h
