use Rattle.gib_check.proofs.KindLaws.{wanted_broken, single_broken, none_stands, declared_broken}
use Rattle.gib_check.proofs.kinds.shape.Goals as goal

pub returns-clause-part : goal.returns-clause-part
returns-clause-part c = λ due part. wanted_broken due part

pub returns-clause-case : goal.returns-clause-case
returns-clause-case c = λ t x. declared_broken t x

pub returns-clause-single : goal.returns-clause-single
returns-clause-single c = λ part. single_broken part

pub returns-clause-tuple : goal.returns-clause-tuple
returns-clause-tuple c = λ st n at e. none_stands st n at e
