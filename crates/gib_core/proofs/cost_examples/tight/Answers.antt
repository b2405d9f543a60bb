use Rattle.std.proofs.Common.{arith}
use Rattle.gib_core.proofs.cost_examples.tight.Goals as goal

-- src/cost_examples.rt
pub returns-clause-in_place : goal.returns-clause-in_place
returns-clause-in_place c = (omega arith, λ h. absurd (omega (arith, h)))

pub returns-clause-apart : goal.returns-clause-apart
returns-clause-apart c = (omega arith, λ h. absurd (omega (arith, h)))

pub returns-clause-by_item : goal.returns-clause-by_item
returns-clause-by_item c = (λ h. absurd (omega (arith, h)), omega arith)

pub returns-clause-by_region : goal.returns-clause-by_region
returns-clause-by_region c = (λ h. absurd (omega (arith, h)), omega arith)
