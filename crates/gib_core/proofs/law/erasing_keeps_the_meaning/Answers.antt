use Rattle.gib_core.proofs.Left.{calls_left, run_left}
use Rattle.gib_core.proofs.law.erasing_keeps_the_meaning.Goals as goal

pub returns-clause-calls : goal.returns-clause-calls
returns-clause-calls c = calls_left

pub returns-clause-run : goal.returns-clause-run
returns-clause-run c = run_left
