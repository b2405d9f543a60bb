use Rattle.std.proofs.Common.{◌≡◌, ◌≤◌, ◌-◌, ℕ, List, length}
use Rattle.gib_compact.specs.Cut.{Cut}
use Rattle.gib_compact.proofs.PieceLemmas.{Wrote}
use Rattle.gib_compact.proofs.pieces.write_pieces.Given as goal

abbrev pub invariant-pieces : goal.invariant-pieces
invariant-pieces g l = record {
  same : g.M.Mem.view l.mem ≡ g.M.Mem.view l.fn.mem;
  within : l.i ≤ length l.pieces;
  passed : (bytes : List ℕ) → Cut l.packing.layouts.now (g.M.Mem.view l.fn.mem).cells l.pieces bytes → Wrote l.packing.layouts.now (g.M.Mem.view l.fn.mem).cells l.pieces l.i l.fn.out.items l.out.items bytes;
}

abbrev pub decreases-pieces : goal.decreases-pieces
decreases-pieces g l = length l.pieces - l.i
