use Rattle.gib_gen.proofs.TotalOfTree.{counted, totalled}
use Rattle.gib_gen.proofs.law.tree_summary.Goals as goal

-- src/law.rt
pub returns-clause-leaves : goal.returns-clause-leaves
returns-clause-leaves c = counted

pub returns-clause-sum : goal.returns-clause-sum
returns-clause-sum c = totalled
