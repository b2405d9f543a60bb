use Rattle.gib_syntax.proofs.Reading.{read_stack, read_all}
use Rattle.gib_syntax.proofs.law.runs_are_read.Goals as goal

pub returns-clause-one : goal.returns-clause-one
returns-clause-one c = λ x. read_stack x

pub returns-clause-all : goal.returns-clause-all
returns-clause-all c = λ xs. read_all xs
