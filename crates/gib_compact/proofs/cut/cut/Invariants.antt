use Rattle.std.proofs.Common.{◌≡◌, ℕ}
use Rattle.gib_types.specs.Tree.{Datum}
use Rattle.gib_file.specs.Packed.{tree}
use Rattle.gib_packed.specs.Decoding.{Dec}
use Rattle.gib_compact.specs.Cut.{Cut}
use Rattle.gib_compact.proofs.cut.cut.Given as goal

abbrev pub invariant-levels : goal.invariant-levels
invariant-levels g l = record {
  same : g.M.Mem.view l.mem ≡ g.M.Mem.view l.fn.mem;
  cut : (t : ℕ) (v : Datum) (z : ℕ) → Dec l.layouts (g.M.Mem.view l.fn.mem).cells l.at t v z → Cut l.layouts (g.M.Mem.view l.fn.mem).cells l.pieces.items (tree v);
}
