use Rattle.gib_local.proofs.OneLocal.{one_local}
use Rattle.gib_local.proofs.law.one_core_of_bytes.Goals as goal

pub returns : goal.returns
returns c = one_local c.one_reading_in.ensures
