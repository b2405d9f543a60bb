use Rattle.gib_access.proofs.Numbered.{reach_numbered}
use Rattle.gib_access.proofs.law.reaching_keeps_numbers.Goals as goal

-- src/law.rt
pub returns : goal.returns
returns c = reach_numbered
