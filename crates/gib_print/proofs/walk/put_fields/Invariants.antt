use Rattle.std.proofs.Common.{◌≡◌, ◌-◌, ℕ, List, ◌∷◌}
use Rattle.gib_print.specs.Going.{Goes}
use Rattle.gib_print.specs.declared.frame.Frame.{Frame}
use Rattle.gib_print.proofs.walk.put_fields.Given as goal

abbrev pub invariant-numbers : goal.invariant-numbers
invariant-numbers g l = record {
  same : g.M.Mem.view l.mem ≡ g.M.Mem.view l.fn.mem;
  goes : (names : List (List ℕ)) (fs : List Frame) (a : ℕ) → Goes l.fn.layouts names (g.M.Mem.view l.fn.mem).cells (l.fn.frame ∷ fs) a (l.frame ∷ fs) a (g.O.Sink.view l.fn.sink) (g.O.Sink.view l.sink) l.fn.waiting l.waiting;
  con : l.frame.con ≡ l.fn.frame.con;
  closes : l.frame.closes ≡ l.fn.frame.closes;
}

abbrev pub decreases-numbers : goal.decreases-numbers
decreases-numbers g l = l.shape.numbers - l.frame.next
