use Rattle.gib_packed.proofs.Sets.{Dec-set}
use Rattle.gib_packed.proofs.law.decoding_is_of_the_set.Goals as goal

pub returns : goal.returns
returns c = λ table listed others s a t z v f d. Dec-set others f d
