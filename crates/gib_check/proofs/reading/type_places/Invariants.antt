use Rattle.std.proofs.Common.{◌≤◌, length, take}
use Rattle.gib_check.proofs.Read.{PlacesSoFar}
use Rattle.gib_check.proofs.reading.type_places.Given as goal

abbrev pub invariant-from_last : goal.invariant-from_last
invariant-from_last l = PlacesSoFar l.words (take l.at l.words) l.stack × (l.at ≤ length l.words)

abbrev pub decreases-from_last : goal.decreases-from_last
decreases-from_last l = l.at
