use Rattle.std.proofs.Common.{refl}
use Rattle.std.specs.Fmt.{digits}
use Rattle.gib_value.proofs.examples.examples.Goals as goal

pub returns-clause-tree : goal.returns-clause-tree
unfolding digits
returns-clause-tree c = refl

pub returns-clause-list : goal.returns-clause-list
unfolding digits
returns-clause-list c = refl

pub returns-clause-least : goal.returns-clause-least
unfolding digits
returns-clause-least c = λ table. refl
