use Rattle.gib_arena.specs.Cells.{cells_of}
use Rattle.gib_weave.proofs.Others.{answer-grows}
use Rattle.gib_weave.proofs.Grow.{side_grows}
use Rattle.gib_pool.proofs.Together.{one_store, one_together, owned_apart, works_together}
use Rattle.gib_pool.proofs.law.tasks_are_sound_together.Goals as goal

pub returns-clause-store : goal.returns-clause-store
returns-clause-store c = λ limit s small rule. one_store limit s small rule

pub returns-clause-one : goal.returns-clause-one
returns-clause-one c = λ words views r r' t t' a. one_together words views r t r' t' a

pub returns-clause-task : goal.returns-clause-task
returns-clause-task c = λ words views r t j v p l d n m lent h. works_together words views r t j v p l d n m lent h

pub returns-clause-apart : goal.returns-clause-apart
returns-clause-apart c = λ words views r t i j v w a b q x y. owned_apart words views r t i j v w a b q x y

pub returns-clause-side : goal.returns-clause-side
returns-clause-side c = λ words views r t j v p l d w h. side_grows (t.each j v p).known h

pub returns-clause-answer : goal.returns-clause-answer
returns-clause-answer c = λ words views r t j v p laid ty owed a h. answer-grows laid (cells_of v.holding) r ty owed a (t.each j v p).known h
