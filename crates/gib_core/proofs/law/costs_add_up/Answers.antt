use Rattle.gib_core.proofs.Adding.{cost_prepend}
use Rattle.gib_core.proofs.law.costs_add_up.Goals as goal

-- src/law.rt
pub returns : goal.returns
returns c = cost_prepend
