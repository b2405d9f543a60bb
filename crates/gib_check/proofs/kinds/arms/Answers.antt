use Rattle.gib_check.proofs.KindLaws.{covered_broken}
use Rattle.gib_check.proofs.kinds.arms.Goals as goal

pub returns : goal.returns
returns c = λ rows ty names at. covered_broken rows ty names at
