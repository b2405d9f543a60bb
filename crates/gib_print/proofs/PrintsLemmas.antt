-- What is told of a text that was put, by how that ended.
use Rattle.std.proofs.Common.{◌≡◌, ◌≤◌, ℕ, List, length, refl, ap, subst, sym, arith, Result, Ok, Err}
use Rattle.std.specs.Prelude.{OnOk}
use Rattle.gib_edge.specs.Causes.{Rose, Appends, AppendsPart, PutsPieces, PutsSomePieces}
use Rattle.gib_edge.specs.Views.{SinkView}
use Rattle.gib_print.specs.Printing.{Prints}
use Rattle.gib_print.specs.declared.fault.PrintFault.{PrintFault}
use Rattle.gib_print.specs.declared.fault.PrintFault.TheVariants.{Memory, Write}

pub prints_done : (before now : SinkView) (text : List ℕ) (r : Result (Unit {0}) PrintFault) → Prints before now text r → OnOk r (Appends before.taken now.taken text)
prints_done before now text (Ok u) p = p.taken
prints_done before now text (Err Write) p = tt
prints_done before now text (Err Memory) p = tt

pub prints_pieces : (before now : SinkView) (text : List ℕ) (r : Result (Unit {0}) PrintFault) → Prints before now text r → OnOk r (PutsPieces before now (length text))
prints_pieces before now text (Ok u) p = p.pieces
prints_pieces before now text (Err Write) p = tt
prints_pieces before now text (Err Memory) p = tt

pub prints_part : (before now : SinkView) (text : List ℕ) (r : Result (Unit {0}) PrintFault) → Prints before now text r → r ≡ Err Write → AppendsPart before.taken now.taken text
prints_part before now text (Ok u) p e = absurd cc
prints_part before now text (Err Write) p e = p.part
prints_part before now text (Err Memory) p e = absurd cc

pub prints_some : (before now : SinkView) (text : List ℕ) (r : Result (Unit {0}) PrintFault) → Prints before now text r → r ≡ Err Write → PutsSomePieces before now (length text)
prints_some before now text (Ok u) p e = absurd cc
prints_some before now text (Err Write) p e = p.some
prints_some before now text (Err Memory) p e = absurd cc

pub prints_cause : (before now : SinkView) (text : List ℕ) (r : Result (Unit {0}) PrintFault) → Prints before now text r → r ≡ Err Write → Rose before.faults now.faults
prints_cause before now text (Ok u) p e = absurd cc
prints_cause before now text (Err Write) p e = p.rose
prints_cause before now text (Err Memory) p e = absurd cc

pub prints_later : (before now : SinkView) (text : List ℕ) (r : Result (Unit {0}) PrintFault) → Prints before now text r → before.faults ≤ now.faults
prints_later before now text (Ok u) p = omega (arith, p.quiet)
prints_later before now text (Err Write) p = p.later
prints_later before now text (Err Memory) p = omega (arith, ap (λ (x : SinkView). x.faults) p)

pub prints_quiet : (before now : SinkView) (text : List ℕ) (r : Result (Unit {0}) PrintFault) → Prints before now text r → (r ≡ Err Write → ⊥) → now.faults ≡ before.faults
prints_quiet before now text (Ok u) p no_write = p.quiet
prints_quiet before now text (Err Write) p no_write = absurd (no_write refl)
prints_quiet before now text (Err Memory) p no_write = ap (λ (x : SinkView). x.faults) p

pub prints_still : (before now : SinkView) (text : List ℕ) (r : Result (Unit {0}) PrintFault) → Prints before now text r → r ≡ Err Memory → now ≡ before
prints_still before now text (Ok u) p e = absurd cc
prints_still before now text (Err Write) p e = absurd cc
prints_still before now text (Err Memory) p e = p

pub prints_silent : (before now : SinkView) (text : List ℕ) (r : Result (Unit {0}) PrintFault) → Prints before now text r → r ≡ Err Memory → now.taken ≡ before.taken
prints_silent before now text (Ok u) p e = absurd cc
prints_silent before now text (Err Write) p e = absurd cc
prints_silent before now text (Err Memory) p e = ap (λ (x : SinkView). x.taken) p
