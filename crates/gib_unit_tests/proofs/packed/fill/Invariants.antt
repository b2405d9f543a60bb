use Rattle.std.proofs.Common.{length, get_or, ◌-◌, ◌≡◌, ◌≤◌, ◌<◌, ℕ}
use Rattle.gib_mem.specs.Memory.{fresh, byte}
use Rattle.gib_unit_tests.proofs.packed.fill.Given as goal

abbrev pub invariant-bytes : goal.invariant-bytes
invariant-bytes g l = record {
  left : (q : ℕ) → l.i ≤ q → q < 4096 → (g.M.Mem.view l.mem).cells q ≡ fresh;
  held : (q : ℕ) → q < l.i → (g.M.Mem.view l.mem).cells q ≡ byte (get_or l.bytes q 0);
}

abbrev pub decreases-bytes : goal.decreases-bytes
decreases-bytes g l = length l.bytes - l.i
