use Rattle.gib_weave.proofs.Sums.{ended_is, sum_lowered, sum_all_fits}
use Rattle.gib_weave.proofs.law.a_core_with_ends_is_lowered_and_fits.Goals as goal

pub returns-clause-ended : goal.returns-clause-ended
returns-clause-ended c = ended_is

pub returns-clause-lowered : goal.returns-clause-lowered
returns-clause-lowered c = sum_lowered

pub returns-clause-fits : goal.returns-clause-fits
returns-clause-fits c = sum_all_fits
