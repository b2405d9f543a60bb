use Rattle.gib_local_print.proofs.Formed.{formed_shaped}
use Rattle.gib_local_print.proofs.law.formed_is_shaped.Goals as goal

pub returns : goal.returns
returns c = λ core is num lit built form single. formed_shaped core (c.built_fits.ensures.each core is num lit built) (c.built_fits.ensures.named core is num lit built) form single
