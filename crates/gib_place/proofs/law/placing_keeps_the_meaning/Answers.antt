use Rattle.gib_place.proofs.Cores.{calls_placed, run_placed, core_numbered}
use Rattle.gib_place.proofs.law.placing_keeps_the_meaning.Goals as goal

-- src/law.rt
pub returns-clause-calls : goal.returns-clause-calls
returns-clause-calls c = calls_placed

pub returns-clause-run : goal.returns-clause-run
returns-clause-run c = run_placed

pub returns-clause-numbered : goal.returns-clause-numbered
returns-clause-numbered c = core_numbered
