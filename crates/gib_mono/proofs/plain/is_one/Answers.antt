use Rattle.std.proofs.Common.{subst}
use Rattle.gib_mono.specs.Bare.{IsOne}
use Rattle.gib_mono.proofs.Baring.{one_there}
use Rattle.gib_mono.proofs.plain.is_one.Goals as goal

pub returns-in-len1 : goal.returns-in-len1
returns-in-len1 c = λ e. subst IsOne c.as_slice.ensures (one_there c.as_slice.result.now c.in-len1.len_at_least c.in-len1.len_below)
