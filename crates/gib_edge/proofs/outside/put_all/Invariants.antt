use Rattle.std.proofs.Common.{◌≡◌, ◌≤◌, ◌-◌, length, take}
use Rattle.gib_edge.specs.Causes.{Appends}
use Rattle.gib_edge.proofs.Pieces.{Put}
use Rattle.gib_edge.proofs.outside.put_all.Given as goal

abbrev pub invariant-loop-at : goal.invariant-loop-at
invariant-loop-at g l = record {
  within : l.at ≤ length l.bytes;
  taken : Appends (g.O.Sink.view l.initial.out).taken (g.O.Sink.view l.out).taken (take l.at l.bytes);
  same : (g.O.Sink.view l.out).faults ≡ (g.O.Sink.view l.initial.out).faults;
  pieces : Put l.at (length l.bytes) (g.O.Sink.view l.initial.out) (g.O.Sink.view l.out);
}

abbrev pub decreases-loop-at : goal.decreases-loop-at
decreases-loop-at g l = length l.bytes - l.at
