use Rattle.std.proofs.Common.{◌≡◌, ℕ, ◌+◌, ◌*◌, length}
use Rattle.gib_types.specs.Tree.{Datum}
use Rattle.gib_file.specs.Packed.{tree}
use Rattle.gib_packed.specs.Decoding.{Dec}
use Rattle.gib_compact.proofs.Walked.{Written}
use Rattle.gib_compact.proofs.write.write_at.Given as goal

abbrev pub invariant-runs : goal.invariant-runs
invariant-runs g l = record {
  same : g.M.Mem.view l.mem ≡ g.M.Mem.view l.fn.mem;
  written : (t : ℕ) (v : Datum) (z : ℕ) → Dec l.packing.layouts.now (g.M.Mem.view l.fn.mem).cells l.at t v z → Written l.packing.layouts.now (g.M.Mem.view l.fn.mem).cells l.walk l.packing.most l.left l.fn.out.items l.out.items (tree v);
}

abbrev pub decreases-runs : goal.decreases-runs
decreases-runs g l = 2 * l.left + length l.walk.back.items
