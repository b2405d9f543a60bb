use Rattle.std.proofs.Common.{ap, subst}
use Rattle.gib_check.specs.declared.fault.TypeFault.{TypeFault}
use Rattle.gib_check.specs.Answers.{IsFaultOf}
use Rattle.gib_local.specs.Local.{named}
use Rattle.gib_local.proofs.making.of_names.Goals as goal

pub returns-in-Broken : goal.returns-in-Broken
returns-in-Broken c = λ t names h. ap (named t) (subst (λ (e : TypeFault). IsFaultOf e names) c.in-Broken.is h)
