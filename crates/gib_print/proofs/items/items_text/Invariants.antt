use Rattle.std.proofs.Common.{◌≡◌, ◌≤◌, ◌-◌, ℕ, List, length, drop, Some}
use Rattle.gib_print.specs.Cut.{Cut}
use Rattle.gib_print.proofs.CutLemmas.{Puts}
use Rattle.gib_print.proofs.items.items_text.Given as goal

abbrev pub invariant-items : goal.invariant-items
invariant-items g l = record {
  same : g.M.Mem.view l.mem ≡ g.M.Mem.view l.fn.mem;
  within : l.i ≤ length l.items;
  puts : (bytes : List ℕ) → Cut l.printing.layouts.now l.printing.names.now.short (g.M.Mem.view l.fn.mem).cells l.items bytes
      → Puts l.printing.layouts.now l.printing.names.now.short (g.M.Mem.view l.fn.mem).cells (drop l.i l.items) bytes (Some l.kept.bytes.items) l.waiting;
}

abbrev pub decreases-items : goal.decreases-items
decreases-items g l = length l.items - l.i
