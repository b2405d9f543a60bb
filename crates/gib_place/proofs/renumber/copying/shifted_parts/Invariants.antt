use Rattle.std.proofs.Common.{◌≤◌, length, drop, reverse}
use Rattle.gib_place.specs.Shifting.{PartsShifted}
use Rattle.gib_place.proofs.renumber.copying.shifted_parts.Given as goal

abbrev pub invariant-parts : goal.invariant-parts
invariant-parts l = (l.i ≤ length l.parts) × PartsShifted l.base (drop l.i l.parts) (reverse l.reversed.items)

abbrev pub decreases-parts : goal.decreases-parts
decreases-parts l = l.i
