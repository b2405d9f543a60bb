use Rattle.gib_core.proofs.Reached.{core_built}
use Rattle.gib_core.proofs.law.reaching_makes_built.Goals as goal

pub returns : goal.returns
returns c = core_built
