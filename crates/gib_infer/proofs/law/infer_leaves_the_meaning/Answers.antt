use Rattle.gib_infer.proofs.Left.{calls_left, run_left}
use Rattle.gib_infer.proofs.law.infer_leaves_the_meaning.Goals as goal

-- src/law.rt
pub returns-clause-calls : goal.returns-clause-calls
returns-clause-calls c = calls_left

pub returns-clause-run : goal.returns-clause-run
returns-clause-run c = run_left
