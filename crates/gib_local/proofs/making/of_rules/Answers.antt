use Rattle.std.proofs.Common.{subst}
use Rattle.gib_loccheck.specs.declared.fault.LocFault.{LocFault}
use Rattle.gib_loccheck.specs.Judging.{Says}
use Rattle.gib_local.proofs.Telling.{judged_broken}
use Rattle.gib_local.proofs.making.of_rules.Goals as goal

pub returns-in-Rule : goal.returns-in-Rule
returns-in-Rule c = λ core broken h. judged_broken core broken c.in-Rule.rule c.in-Rule.term (subst (λ (e : LocFault). Says e broken) c.in-Rule.is h)
