use Rattle.gib_pool.proofs.Turns.{begins}
use Rattle.gib_pool.proofs.law.a_side_begins.Goals as goal

pub returns : goal.returns
returns c = λ l d s w b h. begins l d s w b h
