use Rattle.gib_region.proofs.Counting.{no_room_used}
use Rattle.gib_region.proofs.law.turning_has_used.Goals as goal

pub returns : goal.returns
returns c = λ at k. no_room_used at k
