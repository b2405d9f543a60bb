use Rattle.gib_syntax.proofs.Soundness.{run_has}
use Rattle.gib_syntax.proofs.law.results_are_typed.Goals as goal

pub returns : goal.returns
returns c = run_has
