use Rattle.gib_core.proofs.Unbroken.{unbroken}
use Rattle.gib_core.proofs.law.built_is_unbroken.Goals as goal

pub returns : goal.returns
returns c = unbroken
