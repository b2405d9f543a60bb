use Rattle.std.proofs.Common.{◌≡◌, ◌++◌, ◌-◌, ◌≤◌}
use Rattle.std.specs.Prelude.{replicate, None}
use Rattle.std.specs.Vec.{vec_capacity}
use Rattle.gib_mem.proofs.plain.push_unput.Given as goal

abbrev pub decreases-unput : goal.decreases-unput
decreases-unput l = l.count - l.pushed

abbrev pub invariant-unput : goal.invariant-unput
invariant-unput l = record {
  order : l.pushed ≤ l.count;
  pushed : l.bytes.items ≡ l.fn.bytes.items ++ replicate l.pushed None;
  room : vec_capacity l.bytes ≡ vec_capacity l.fn.bytes;
}
