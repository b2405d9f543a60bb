use Rattle.gib_pool.proofs.Turns.{turn}
use Rattle.gib_pool.proofs.law.each_turn_keeps.Goals as goal

pub returns : goal.returns
returns c = λ l d v m lent ok b h. turn l d ok v m lent b h
