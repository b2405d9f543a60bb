use Rattle.std.proofs.Common.{◌≡◌, [], ◌∷◌, ℕ, List, reverse}
use Rattle.gib_types.specs.Layout.{field_types}
use Rattle.gib_print.specs.Framing.{works}
use Rattle.gib_print.specs.Working.{Left}
use Rattle.gib_print.proofs.PlanLemmas.{Writing}
use Rattle.gib_print.proofs.walk.put_rest.Given as goal

abbrev pub invariant-turns : goal.invariant-turns
invariant-turns g l = record {
  same : g.M.Mem.view l.mem ≡ g.M.Mem.view l.fn.mem;
  fields : l.fields ≡ field_types l.printing.layouts.now l.top.con.0;
  writes : (rest : List ℕ) → Left l.printing.layouts.now l.printing.names.now.short (g.M.Mem.view l.fn.mem).cells (works l.printing.layouts.now.table (l.fn.begun.0 ∷ [])) l.fn.begun.1 rest
      → Writing l.printing.layouts.now l.printing.names.now.short (g.M.Mem.view l.fn.mem).cells (l.top ∷ reverse l.frames.items) l.end rest (g.O.Sink.view l.fn.sink) (g.O.Sink.view l.sink) l.fn.waiting l.waiting;
}

abbrev pub decreases-turns : goal.decreases-turns
decreases-turns g l = l.left
