use Rattle.std.proofs.Common.{◌≡◌, ℕ, reverse}
use Rattle.gib_types.specs.Tree.{Datum}
use Rattle.gib_value.specs.Text.{text}
use Rattle.gib_packed.specs.Decoding.{Dec}
use Rattle.gib_print.proofs.CutLemmas.{Cutting}
use Rattle.gib_print.proofs.cut.cut_text.Given as goal

abbrev pub invariant-items : goal.invariant-items
invariant-items g l = record {
  same : g.M.Mem.view l.mem ≡ g.M.Mem.view l.fn.mem;
  cuts : (t : ℕ) (v : Datum) (z : ℕ) → Dec l.printing.layouts.now (g.M.Mem.view l.fn.mem).cells l.at t v z
      → Cutting l.printing.layouts.now l.printing.names.now.short (g.M.Mem.view l.fn.mem).cells l.items.items (reverse l.progress.frames.items) l.progress.end (text l.printing.layouts.now.table l.printing.names.now.short v);
}

abbrev pub decreases-items : goal.decreases-items
decreases-items g l = l.left
