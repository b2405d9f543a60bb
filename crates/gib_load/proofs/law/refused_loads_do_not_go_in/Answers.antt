use Rattle.gib_load.proofs.Overflow.{refused_over}
use Rattle.gib_load.proofs.law.refused_loads_do_not_go_in.Goals as goal

pub returns : goal.returns
returns c = refused_over
