-- The last packed one of an arm's variables, one field after another.
use Rattle.std.proofs.Common.{◌≡◌, ℕ, zero, suc, ◌+◌, ◌<◌, ◌≤◌, true, false, List, [], ◌∷◌, Option, Some, length, drop, get_or, refl, ap, ◌∙◌, arith}
use Rattle.std.proofs.lemmas.List.{drop_all}
use Rattle.gib_types.specs.declared.table.Ty.{Ty}
use Rattle.gib_types.specs.declared.table.Ty.TheVariants as ty
use Rattle.gib_types.specs.Table.{is_scalar}
use Rattle.gib_core.specs.declared.atom.Variable.{Variable}
use Rattle.gib_core.specs.Ending.{last_packed}

after_scalar : (o : Option Variable) (fs : List Ty) (xs : List Variable) (i : ℕ) (d : Ty) → i < length fs → i < length xs → is_scalar (get_or fs i d) ≡ true → last_packed o (drop i fs) (drop i xs) ≡ last_packed o (drop (suc i) fs) (drop (suc i) xs)
after_scalar o [] xs i d a b e = absurd (omega (arith, a))
after_scalar o (f ∷ fs) [] i d a b e = absurd (omega (arith, b))
after_scalar o (ty.Whole ∷ fs) (x ∷ xs) zero d a b e = refl
after_scalar o (ty.Truth ∷ fs) (x ∷ xs) zero d a b e = refl
after_scalar o (ty.Tree t ∷ fs) (x ∷ xs) zero d a b e = absurd cc
after_scalar o (f ∷ fs) (x ∷ xs) (suc i) d a b e = after_scalar o fs xs i d (omega (arith, a)) (omega (arith, b)) e

pub last_scalar : (o : Option Variable) (fs : List Ty) (xs : List Variable) (i : ℕ) (d : Ty) → i < length fs → i < length xs → is_scalar (get_or fs i d) ≡ true → last_packed o (drop i fs) (drop i xs) ≡ last_packed o (drop (i + 1) fs) (drop (i + 1) xs)
last_scalar o fs xs i d a b e = let next : suc i ≡ i + 1 = omega arith in after_scalar o fs xs i d a b e ∙ ap (λ (k : ℕ). last_packed o (drop k fs) (drop k xs)) next

after_tree : (o : Option Variable) (fs : List Ty) (xs : List Variable) (i : ℕ) (d : Ty) (y : Variable) → i < length fs → i < length xs → is_scalar (get_or fs i d) ≡ false → last_packed o (drop i fs) (drop i xs) ≡ last_packed (Some (get_or xs i y)) (drop (suc i) fs) (drop (suc i) xs)
after_tree o [] xs i d y a b e = absurd (omega (arith, a))
after_tree o (f ∷ fs) [] i d y a b e = absurd (omega (arith, b))
after_tree o (ty.Whole ∷ fs) (x ∷ xs) zero d y a b e = absurd cc
after_tree o (ty.Truth ∷ fs) (x ∷ xs) zero d y a b e = absurd cc
after_tree o (ty.Tree t ∷ fs) (x ∷ xs) zero d y a b e = refl
after_tree o (f ∷ fs) (x ∷ xs) (suc i) d y a b e = after_tree o fs xs i d y (omega (arith, a)) (omega (arith, b)) e

pub last_tree : (o : Option Variable) (fs : List Ty) (xs : List Variable) (i : ℕ) (d : Ty) (y : Variable) → i < length fs → i < length xs → is_scalar (get_or fs i d) ≡ false → last_packed o (drop i fs) (drop i xs) ≡ last_packed (Some (get_or xs i y)) (drop (i + 1) fs) (drop (i + 1) xs)
last_tree o fs xs i d y a b e = let next : suc i ≡ i + 1 = omega arith in after_tree o fs xs i d y a b e ∙ ap (λ (k : ℕ). last_packed (Some (get_or xs i y)) (drop k fs) (drop k xs)) next

none_left : (o : Option Variable) (fs : List Ty) → last_packed o fs [] ≡ o
none_left o [] = refl
none_left o (f ∷ fs) = refl

pub last_short : (o : Option Variable) (fs : List Ty) (xs : List Variable) (i : ℕ) → length xs ≤ i → last_packed o (drop i fs) (drop i xs) ≡ o
last_short o fs xs i a = ap (λ ys. last_packed o (drop i fs) ys) (drop_all i xs a) ∙ none_left o (drop i fs)
