use Rattle.std.proofs.Common.{◌≤◌, [], length, drop}
use Rattle.gib_core.specs.Mentioned.{uses_in}
use Rattle.gib_core.specs.Counting.{Adds}
use Rattle.gib_core.proofs.tally.tally_of.Given as goal

abbrev pub invariant-mentions : goal.invariant-mentions
invariant-mentions l = (l.i ≤ length l.mentions) × Adds [] l.tally (uses_in (drop l.i l.mentions))

abbrev pub decreases-mentions : goal.decreases-mentions
decreases-mentions l = l.i
