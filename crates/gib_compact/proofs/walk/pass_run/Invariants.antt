use Rattle.std.proofs.Common.{◌≡◌, ℕ, ◌+◌, ◌-◌, ◌*◌, ◌^◌, ◌≤◌, List, reverse}
use Rattle.gib_compact.specs.Left.{IsLeft}
use Rattle.gib_compact.proofs.Running.{Running}
use Rattle.gib_compact.proofs.walk.pass_run.Given as goal

abbrev pub invariant-heads : goal.invariant-heads
invariant-heads g l = record {
  same : g.M.Mem.view l.mem ≡ g.M.Mem.view l.fn.mem;
  running : (rest : List ℕ) → IsLeft l.layouts (g.M.Mem.view l.fn.mem).cells l.fn.walk rest → Running l.layouts (g.M.Mem.view l.fn.mem).cells l.fn.walk.at l.at l.due (reverse l.fn.walk.back.items) rest;
  most : l.fn.walk.due ≤ 2 ^ 62;
  behind : l.fn.walk.at ≤ l.at;
  few : l.due + 8 * l.fn.walk.at ≤ l.fn.walk.due + 8 * l.at;
  low : l.at ≡ l.fn.walk.at → l.due ≡ l.fn.walk.due;
}

abbrev pub decreases-heads : goal.decreases-heads
decreases-heads g l = 2 ^ 44 - l.at
