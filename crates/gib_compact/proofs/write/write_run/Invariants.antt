use Rattle.std.proofs.Common.{◌≡◌, ◌-◌, ◌<◌, ◌≤◌, ◌^◌, ℕ, List, ◌++◌, length, take}
use Rattle.gib_mem.specs.Memory.{Holds}
use Rattle.gib_compact.proofs.write.write_run.Given as goal

abbrev pub invariant-words : goal.invariant-words
invariant-words g l = record {
  same : g.M.Mem.view l.mem ≡ g.M.Mem.view l.fn.mem;
  within : l.i ≤ l.count;
  small : 0 < l.i → l.at < 2 ^ 44;
  out : (bytes : List ℕ) → Holds (g.M.Mem.view l.fn.mem).cells l.at bytes → length bytes ≡ l.count → l.out.items ≡ l.fn.out.items ++ take l.i bytes;
}

abbrev pub decreases-words : goal.decreases-words
decreases-words g l = l.count - l.i

abbrev pub invariant-bytes : goal.invariant-bytes
invariant-bytes g l = record {
  same : g.M.Mem.view l.mem ≡ g.M.Mem.view l.fn.mem;
  within : l.i ≤ l.count;
  small : 0 < l.i → l.at < 2 ^ 44;
  out : (bytes : List ℕ) → Holds (g.M.Mem.view l.fn.mem).cells l.at bytes → length bytes ≡ l.count → l.out.items ≡ l.fn.out.items ++ take l.i bytes;
}

abbrev pub decreases-bytes : goal.decreases-bytes
decreases-bytes g l = l.count - l.i
