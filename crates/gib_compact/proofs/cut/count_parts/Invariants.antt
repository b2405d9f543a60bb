use Rattle.std.proofs.Common.{length, ◌-◌, ◌≤◌}
use Rattle.gib_compact.proofs.cut.count_parts.Given as goal

abbrev pub invariant-pieces : goal.invariant-pieces
invariant-pieces l = record { few : l.count ≤ l.i; within : l.i ≤ length l.pieces }

abbrev pub decreases-pieces : goal.decreases-pieces
decreases-pieces l = length l.pieces - l.i
