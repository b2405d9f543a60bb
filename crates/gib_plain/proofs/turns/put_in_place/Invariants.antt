use Rattle.std.proofs.Common.{◌≡◌, ◌++◌, length}
use Rattle.gib_plain.specs.Turns.{put_back, in_place}
use Rattle.gib_plain.proofs.turns.put_in_place.Given as goal

abbrev pub invariant-types : goal.invariant-types
invariant-types l = l.placed.items ++ put_back l.rest_types l.rest_scalars l.rest ≡ in_place l.types l.values

abbrev pub decreases-types : goal.decreases-types
decreases-types l = length l.rest_types
