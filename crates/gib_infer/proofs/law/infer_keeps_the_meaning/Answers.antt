use Rattle.gib_infer.proofs.Whole.{calls_same, run_same}
use Rattle.gib_infer.proofs.law.infer_keeps_the_meaning.Goals as goal

-- src/law.rt
pub returns-clause-calls : goal.returns-clause-calls
returns-clause-calls c = calls_same

pub returns-clause-run : goal.returns-clause-run
returns-clause-run c = run_same
