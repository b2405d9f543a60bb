use Rattle.gib_forks.proofs.Kept.{core_erased, calls_marked, run_marked, core_built, core_numbered}
use Rattle.gib_forks.proofs.law.marking_keeps.Goals as goal

pub returns-clause-erased : goal.returns-clause-erased
returns-clause-erased c = core_erased

pub returns-clause-calls : goal.returns-clause-calls
returns-clause-calls c = calls_marked

pub returns-clause-run : goal.returns-clause-run
returns-clause-run c = run_marked

pub returns-clause-built : goal.returns-clause-built
returns-clause-built c = core_built

pub returns-clause-numbered : goal.returns-clause-numbered
returns-clause-numbered c = core_numbered
