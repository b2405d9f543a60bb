use Rattle.std.proofs.Common.{◌≡◌, ◌-◌, ℕ, List, length, ◌∷◌}
use Rattle.gib_types.specs.Layout.{LaidOut, field_types}
use Rattle.gib_print.specs.Going.{Goes}
use Rattle.gib_print.specs.declared.frame.Frame.{Frame}
use Rattle.gib_print.proofs.walk.put_scalars.Given as goal

abbrev pub invariant-scalars : goal.invariant-scalars
invariant-scalars g l = record {
  same : g.M.Mem.view l.mem ≡ g.M.Mem.view l.fn.mem;
  goes : (laid : LaidOut) (names : List (List ℕ)) (fs : List Frame) (a : ℕ) → l.fields ≡ field_types laid l.fn.frame.con.0 → Goes laid names (g.M.Mem.view l.fn.mem).cells (l.fn.frame ∷ fs) a (l.frame ∷ fs) a (g.O.Sink.view l.fn.sink) (g.O.Sink.view l.sink) l.fn.waiting l.waiting;
  con : l.frame.con ≡ l.fn.frame.con;
  closes : l.frame.closes ≡ l.fn.frame.closes;
}

abbrev pub decreases-scalars : goal.decreases-scalars
decreases-scalars g l = length l.fields - l.frame.next
