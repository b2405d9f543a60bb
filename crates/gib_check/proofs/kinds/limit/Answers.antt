use Rattle.std.proofs.Common.{◌+◌, ap, length}
use Rattle.gib_check.specs.declared.fault.Kind.TheVariants as kind
use Rattle.gib_check.specs.FirstFault.{no_ninth}
use Rattle.gib_check.proofs.KindLaws.{less_broken, ninth_variable, ninth_part}
use Rattle.gib_check.proofs.kinds.limit.Goals as goal

pub returns-clause-name : goal.returns-clause-name
returns-clause-name c = λ most names x. less_broken (length names) most kind.Limit x.span (tt {0})

pub returns-clause-field : goal.returns-clause-field
returns-clause-field c = λ fields ninth e. ap no_ninth e

pub returns-clause-eight : goal.returns-clause-eight
returns-clause-eight c = λ fields e. ap no_ninth e

pub returns-clause-expression : goal.returns-clause-expression
returns-clause-expression c = λ n at. less_broken n.expressions 2000 kind.Limit at (record n { expressions = n.expressions + 1 })

pub returns-clause-variable : goal.returns-clause-variable
returns-clause-variable c = λ n x. less_broken n.variables 200 kind.Limit x.span (record n { variables = n.variables + 1 })

pub returns-clause-part : goal.returns-clause-part
returns-clause-part c = λ i scope n x e l. ninth_variable i scope n x e l

pub returns-clause-result : goal.returns-clause-result
returns-clause-result c = λ datas vars i w ws l. ninth_part datas vars i w ws l
