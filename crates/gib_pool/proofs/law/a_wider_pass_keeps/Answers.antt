use Rattle.gib_pool.proofs.Turns.{wider_keeps}
use Rattle.gib_pool.proofs.law.a_wider_pass_keeps.Goals as goal

pub returns : goal.returns
returns c = λ l d s r n m lent w h. wider_keeps l d s r n m lent w h
