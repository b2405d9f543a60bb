-- Numbers one behind another, from one on.
use Rattle.std.proofs.Common.{◌≡◌, ℕ, zero, suc, ◌+◌, ◌<◌, ◌≤◌, ◌==◌, ◌&&◌, if◌then◌else◌, List, [], ◌∷◌, ◌++◌, length, refl, sym, ap, ◌∙◌, subst, arith}
use Rattle.gib_core.specs.Inferring.{numbers_from}
use Rattle.gib_core.specs.Rules.{next}

-- The numbers from one on to another one, without it.
abbrev pub Runs : ℕ → List ℕ → ℕ → Type 0
Runs n [] m = n ≡ m
Runs n (x ∷ xs) m = (x ≡ n) × Runs (n + 1) xs m

pub runs_apart : (n m : ℕ) (xs ys : List ℕ) → Runs n (xs ++ ys) m → (k : ℕ) × Runs n xs k × Runs k ys m
runs_apart n m [] ys h = (n, refl, h)
runs_apart n m (x ∷ xs) ys h = let r = runs_apart (n + 1) m xs ys h.1 in (r.0, (h.0, r.1), r.2)

pub runs_up : (n m : ℕ) (xs : List ℕ) → Runs n xs m → n ≤ m
runs_up n m [] h = omega (arith, h)
runs_up n m (x ∷ xs) h = let r = runs_up (n + 1) m xs h.1 in omega (arith, r)

pub number_runs : (n count : ℕ) → Runs n (numbers_from n count) (n + count)
number_runs n zero = omega arith
number_runs n (suc count) =
    let h = number_runs (suc n) count in
    let next : suc n ≡ n + 1 = omega arith in
    let last : suc n + count ≡ n + suc count = omega arith in
    (refl, subst (λ (k : ℕ). Runs k (numbers_from (suc n) count) (n + suc count)) next (subst (λ (k : ℕ). Runs (suc n) (numbers_from (suc n) count) k) last h))

pub runs_append : (n k m : ℕ) (xs ys : List ℕ) → Runs n xs k → Runs k ys m → Runs n (xs ++ ys) m
runs_append n k m [] ys e h = subst (λ (j : ℕ). Runs j ys m) (sym e) h
runs_append n k m (x ∷ xs) ys e h = (e.0, runs_append (n + 1) k m xs ys e.1 h)

pub runs_numbers : (n m : ℕ) (xs : List ℕ) → Runs n xs m → xs ≡ numbers_from n (length xs)
runs_numbers n m [] h = refl
runs_numbers n m (x ∷ xs) h =
    let next : n + 1 ≡ suc n = omega arith in
    λ i. h.0 i ∷ (runs_numbers (n + 1) m xs h.1 ∙ ap (λ j. numbers_from j (length xs)) next) i
