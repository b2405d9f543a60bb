use Rattle.std.proofs.Common.{◌≡◌, ◌^◌, ℕ}
use Rattle.gib_types.specs.Tree.{Datum}
use Rattle.gib_types.specs.Layout.{LaidOut}
use Rattle.gib_mem.specs.Memory.{byte}
use Rattle.gib_packed.specs.Decoding.{Dec}
use Rattle.gib_packed.specs.Reaching.{Turns}
use Rattle.gib_packed.proofs.Steps.{hops}
use Rattle.gib_packed.proofs.FollowLemmas.{ReachesWithin}
use Rattle.gib_packed.proofs.read.pass_redirects.Given as goal

abbrev pub invariant-redirects : goal.invariant-redirects
invariant-redirects g l = record {
  same : g.M.Mem.view l.mem ≡ g.M.Mem.view l.fn.mem;
  tagged : (g.M.Mem.view l.fn.mem).cells l.place ≡ byte l.tag;
  reaches : ReachesWithin (g.M.Mem.view l.fn.mem).cells (2 ^ 44) l.place;
  leads : (h : ℕ) → Turns (g.M.Mem.view l.fn.mem).cells l.place h → Turns (g.M.Mem.view l.fn.mem).cells l.fn.at h;
  stands : (laid : LaidOut) (t : ℕ) (v : Datum) (z : ℕ) → Dec laid (g.M.Mem.view l.fn.mem).cells l.fn.at t v z → Dec laid (g.M.Mem.view l.fn.mem).cells l.place t v z;
}

abbrev pub decreases-redirects : goal.decreases-redirects
decreases-redirects g l = hops (2 ^ 44) (g.M.Mem.view l.fn.mem).cells l.place
