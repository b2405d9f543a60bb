use Rattle.std.proofs.Common.{◌-◌, length}
use Rattle.gib_place.proofs.Cutting.{CutBehind}
use Rattle.gib_place.proofs.spots.cut_at.Given as goal

abbrev pub invariant-fields : goal.invariant-fields
invariant-fields l = CutBehind l.x l.fields l.i

abbrev pub decreases-fields : goal.decreases-fields
decreases-fields l = length l.fields - l.i
