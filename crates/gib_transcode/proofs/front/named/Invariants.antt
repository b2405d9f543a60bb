use Rattle.std.proofs.Common.{◌≤◌}
use Rattle.gib_types.specs.Table.{count_at}
use Rattle.gib_transcode.proofs.front.named.Given as goal

abbrev pub invariant-constructors : goal.invariant-constructors
invariant-constructors l = l.left ≤ count_at l.types l.of.0

abbrev pub decreases-constructors : goal.decreases-constructors
decreases-constructors l = l.left
