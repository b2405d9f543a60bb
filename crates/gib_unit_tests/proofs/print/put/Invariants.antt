use Rattle.std.proofs.Common.{◌≡◌, ◌+◌, ◌-◌, length, drop}
use Rattle.gib_mem.specs.Memory.{Owned}
use Rattle.gib_mem.specs.Memory.{after_puts}
use Rattle.gib_unit_tests.proofs.print.put.Given as goal

abbrev pub invariant-bytes : goal.invariant-bytes
invariant-bytes g l = record {
  all : after_puts (g.M.Mem.view l.mem) (l.at + l.i) (drop l.i l.bytes) ≡ after_puts (g.M.Mem.view l.fn.mem) l.at l.bytes;
  owned : Owned (g.M.Mem.view l.mem).cells (l.at + l.i) (length l.bytes - l.i);
}
