use Rattle.std.proofs.Common.{◌≡◌, ◌^◌, ℕ}
use Rattle.gib_types.specs.Tree.{Datum}
use Rattle.gib_packed.specs.Decoding.{Dec}
use Rattle.gib_packed.proofs.Steps.{most, steps}
use Rattle.gib_packed.proofs.Spans.{Goes}
use Rattle.gib_packed.proofs.read.skip.Given as goal

abbrev pub invariant-walk : goal.invariant-walk
invariant-walk g l = record {
  same : g.M.Mem.view l.mem ≡ g.M.Mem.view l.fn.mem;
  goes : (t : ℕ) (v : Datum) (z : ℕ) → Dec l.layouts (g.M.Mem.view l.fn.mem).cells l.fn.at t v z → Goes l.layouts (g.M.Mem.view l.fn.mem).cells (2 ^ 44) l.place l.due z;
}

abbrev pub decreases-walk : goal.decreases-walk
decreases-walk g l = steps (most (2 ^ 44)) l.layouts (g.M.Mem.view l.fn.mem).cells l.place l.due
