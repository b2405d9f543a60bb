-- Sums over a list, and how often a thing stands in one.
use Rattle.std.specs.Prelude.{ℕ, ◌+◌, Bool, true, false, ◌&&◌, eqb, ltb, List, [], ◌∷◌}

-- The numbers that a function gives for each item, added up.
abbrev pub total : {A : Type 0} → (A → ℕ) → List A → ℕ
total f [] = 0
total f (x ∷ xs) = f x + total f xs

-- 1 where it is true, else 0.
abbrev pub one_if : Bool → ℕ
one_if true = 1
one_if false = 0

-- How often a number stands in a list.
abbrev pub times : ℕ → List ℕ → ℕ
times c xs = total (λ x. one_if (eqb x c)) xs

-- 1 for a number below n, and 0 for each other.
abbrev pub once_below : ℕ → ℕ → ℕ
once_below c n = one_if (ltb c n)

-- Whether two paths are the same.
abbrev pub same_path : List ℕ → List ℕ → Bool
same_path [] [] = true
same_path [] (y ∷ ys) = false
same_path (x ∷ xs) [] = false
same_path (x ∷ xs) (y ∷ ys) = eqb x y && same_path xs ys

-- How often a path stands in a list.
abbrev pub times_path : List ℕ → List (List ℕ) → ℕ
times_path p ps = total (λ q. one_if (same_path q p)) ps

-- The paths with this one in front, unless it is the one to leave out.
abbrev pub keep_unless : Bool → List ℕ → List (List ℕ) → List (List ℕ)
keep_unless true q ps = ps
keep_unless false q ps = q ∷ ps

-- The list without a path.
abbrev pub without : List ℕ → List (List ℕ) → List (List ℕ)
without p [] = []
without p (q ∷ ps) = keep_unless (same_path q p) q (without p ps)
