use Rattle.std.proofs.Common.{◌≡◌, drop}
use Rattle.gib_edge.specs.Fails.{part_at}
use Rattle.gib_edge.proofs.mem_sink.part_of.Given as goal

abbrev pub invariant-loop-at : goal.invariant-loop-at
invariant-loop-at l = part_at (drop l.at-index l.fails) l.call ≡ part_at l.fails l.call
