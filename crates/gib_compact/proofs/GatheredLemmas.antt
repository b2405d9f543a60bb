-- Buffers that are put together.
use Rattle.std.proofs.Common.{◌≡◌, ◌≤◌, ℕ, List, [], ◌∷◌, ◌++◌, sym, ap, ◌∙◌, append_assoc, append-nil}
use Rattle.std.specs.Prelude.{Result, Ok, Err, IfOk}
use Rattle.std.specs.Global.{Vec}
use Rattle.gib_compact.specs.declared.fault.CompactFault.{CompactFault}
use Rattle.gib_compact.specs.Gathered.{gathered}

-- the last one comes first
pub gathered_last : (bs : List (Vec ℕ)) (b : Vec ℕ) → gathered (bs ++ b ∷ []) ≡ b.items ++ gathered bs
gathered_last [] b = sym (append-nil b.items)
gathered_last (x ∷ bs) b = ap (λ (q : List ℕ). q ++ x.items) (gathered_last bs b) ∙ append_assoc b.items (gathered bs) x.items

-- the same bytes, and so many at most
pub with_bound : (r : Result (Vec (Vec ℕ)) CompactFault) (xs ys : List ℕ) (n most : ℕ) → xs ≡ ys → n ≤ most → IfOk r (λ parts. gathered parts.items ≡ xs) → IfOk r (λ parts. (gathered parts.items ≡ ys) × (n ≤ most))
with_bound (Ok parts) xs ys n most e l h = (h ∙ e, l)
with_bound (Err fault) xs ys n most e l h = tt
