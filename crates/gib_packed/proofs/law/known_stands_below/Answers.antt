use Rattle.gib_packed.proofs.WalkLemmas.{known_below}
use Rattle.gib_packed.proofs.law.known_stands_below.Goals as goal

pub returns : goal.returns
returns c = λ m b. known_below m b
