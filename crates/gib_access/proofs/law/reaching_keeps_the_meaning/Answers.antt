use Rattle.gib_access.proofs.Reaches.{core_erased, calls_reached, run_reached}
use Rattle.gib_access.proofs.law.reaching_keeps_the_meaning.Goals as goal

-- src/law.rt
pub returns-clause-erased : goal.returns-clause-erased
returns-clause-erased c = core_erased

pub returns-clause-calls : goal.returns-clause-calls
returns-clause-calls c = calls_reached

pub returns-clause-run : goal.returns-clause-run
returns-clause-run c = run_reached
