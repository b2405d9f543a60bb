use Rattle.gib_check.specs.declared.fault.Kind.TheVariants as kind
use Rattle.gib_check.proofs.KindLaws.{equal_broken}
use Rattle.gib_check.proofs.kinds.count.Goals as goal

pub returns-clause-tuple : goal.returns-clause-tuple
returns-clause-tuple c = λ due n at. equal_broken n due kind.Count at (tt {0})

pub returns-clause-number : goal.returns-clause-number
returns-clause-number c = λ n due x. equal_broken n due kind.Count x.span (tt {0})
