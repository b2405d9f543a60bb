use Rattle.gib_locked.proofs.OneEnd.{no_fault, one_answer, one_fault}
use Rattle.gib_locked.proofs.law.a_journal_has_one_end.Goals as goal

pub returns-clause-answers : goal.returns-clause-answers
returns-clause-answers c = λ code start lines m n a b al h k. one_answer code start lines al m n a b h k

pub returns-clause-faults : goal.returns-clause-faults
returns-clause-faults c = λ code start lines f g al p q h k. one_fault code start lines al f g p q h k

pub returns-clause-apart : goal.returns-clause-apart
returns-clause-apart c = λ code start lines m a f al h k. no_fault code start lines al m a f h k
