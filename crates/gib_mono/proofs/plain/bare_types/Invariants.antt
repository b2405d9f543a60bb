use Rattle.std.proofs.Common.{◌≤◌, length, take}
use Rattle.gib_mono.proofs.Baring.{TypesSoFar}
use Rattle.gib_mono.proofs.plain.bare_types.Given as goal

abbrev pub invariant-from_last : goal.invariant-from_last
invariant-from_last l = TypesSoFar l.words (take l.at l.words) l.stack × (l.at ≤ length l.words)

abbrev pub decreases-from_last : goal.decreases-from_last
decreases-from_last l = l.at
