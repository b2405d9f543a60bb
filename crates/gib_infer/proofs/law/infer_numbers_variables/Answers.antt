use Rattle.gib_infer.proofs.Left.{infer_ordered}
use Rattle.gib_infer.proofs.Numbered.{infer_numbered}
use Rattle.gib_infer.proofs.law.infer_numbers_variables.Goals as goal

-- src/law.rt
pub returns-clause-numbered : goal.returns-clause-numbered
returns-clause-numbered c = infer_numbered

pub returns-clause-ordered : goal.returns-clause-ordered
returns-clause-ordered c = infer_ordered
