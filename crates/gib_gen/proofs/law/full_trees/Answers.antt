use Rattle.gib_gen.proofs.Works.{full_height, full_leaves, worked_leaves}
use Rattle.gib_gen.proofs.law.full_trees.Goals as goal

-- src/law.rt
pub returns-clause-height : goal.returns-clause-height
returns-clause-height c = full_height

pub returns-clause-leaves : goal.returns-clause-leaves
returns-clause-leaves c = full_leaves

pub returns-clause-worked : goal.returns-clause-worked
returns-clause-worked c = worked_leaves
