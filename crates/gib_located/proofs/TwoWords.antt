-- Two words.
use Rattle.std.proofs.Common.{◌≡◌, ◌<◌, ◌≤◌, ℕ, zero, suc, List, [], ◌∷◌, length, get_or, map, refl, sym, ap, arith}

pub two_words : {A B : Type 0} (f : A → B) (xs : List A) (second : A) → 2 ≤ length xs → length xs < 3 → second ≡ get_or xs 1 second → (first : B) × (map f xs ≡ first ∷ f second ∷ [])
two_words f [] second some few e = absurd (omega arith)
two_words f (x ∷ []) second some few e = absurd (omega arith)
two_words f (x ∷ y ∷ []) second some few e = (f x, ap (λ z. f x ∷ f z ∷ []) (sym e))
two_words f (x ∷ y ∷ z ∷ xs) second some few e = absurd (omega arith)
