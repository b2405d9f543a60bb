-- Names that differ, one after another.
use Rattle.std.proofs.Common.{◌≡◌, ℕ, zero, suc, ◌<◌, ◌≤◌, Bool, true, false, cond, eqb, List, [], ◌∷◌, ◌++◌, length, Option, Some, None, refl, sym, ap, subst, arith, append_assoc}
use Rattle.std.proofs.lemmas.Bool.{eqb-false, ne_eqb}
use Rattle.std.specs.Prelude.{slice_get}
use Rattle.gib_syntax.specs.Declarations.{place_of, next_place, AreDifferent}

none_split : (b : Bool) (o : Option ℕ) → cond b (Some 0) (next_place o) ≡ None → (b ≡ false) × (o ≡ None)
none_split true o e = absurd cc
none_split false None e = (refl, refl)
none_split false (Some i) e = absurd cc

pub none_cons : (y x : ℕ) (ys : List ℕ) → place_of (y ∷ ys) x ≡ None → (eqb y x ≡ false) × (place_of ys x ≡ None)
none_cons y x ys e = none_split (eqb y x) (place_of ys x) e

pub cons_none : (y x : ℕ) (ys : List ℕ) → eqb y x ≡ false → place_of ys x ≡ None → place_of (y ∷ ys) x ≡ None
cons_none y x ys e h = (λ i. cond (e i) (Some 0) (next_place (h i)))

flip : (y x : ℕ) → eqb y x ≡ false → eqb x y ≡ false
flip y x e = ne_eqb x y (λ q. eqb-false y x e (sym q))

pub none_push : (ys : List ℕ) (x y : ℕ) → place_of ys y ≡ None → eqb x y ≡ false → place_of (ys ++ x ∷ []) y ≡ None
none_push [] x y h e = cons_none x y [] e refl
none_push (z ∷ ys) x y h e = let p = none_cons z y ys h in cons_none z y (ys ++ x ∷ []) p.0 (none_push ys x y p.1 e)

pub different_push : (xs : List ℕ) (x : ℕ) → AreDifferent xs → place_of xs x ≡ None → AreDifferent (xs ++ x ∷ [])
different_push [] x h e = (refl, tt)
different_push (y ∷ ys) x h e =
    let p = none_cons y x ys e in (none_push ys x y h.0 (flip y x p.0), different_push ys x h.1 p.1)

pub none_front : (xs ys : List ℕ) (z : ℕ) → place_of (xs ++ ys) z ≡ None → place_of xs z ≡ None
none_front [] ys z h = refl
none_front (x ∷ xs) ys z h = let p = none_cons x z (xs ++ ys) h in cons_none x z xs p.0 (none_front xs ys z p.1)

pub none_in : (xs ys : List ℕ) (x z : ℕ) → place_of (xs ++ x ∷ ys) z ≡ None → eqb x z ≡ false
none_in [] ys x z h = (none_cons x z ys h).0
none_in (w ∷ xs) ys x z h = none_in xs ys x z (none_cons w z (xs ++ x ∷ ys) h).1

-- A name among different ones is none of those before it.
pub new_of : (xs ys : List ℕ) (x : ℕ) → AreDifferent (xs ++ x ∷ ys) → place_of xs x ≡ None
new_of [] ys x h = refl
new_of (w ∷ xs) ys x h = cons_none w x xs (flip x w (none_in xs ys x w h.0)) (new_of xs ys x h.1)

pub snoc : (xs ys : List ℕ) (x : ℕ) → xs ++ x ∷ ys ≡ (xs ++ x ∷ []) ++ ys
snoc xs ys x = sym (append_assoc xs (x ∷ []) ys)

pub none_short : {A : Type 0} (xs : List A) (n : ℕ) → slice_get xs n ≡ None → length xs ≤ n
none_short [] n e = omega arith
none_short (x ∷ xs) zero e = absurd cc
none_short (x ∷ xs) (suc n) e = let h = none_short xs n e in omega (arith, h)

-- Different names at two places.
some_none : {A : Type 0} (x : A) → Some x ≡ None → ⊥
some_none x e = absurd cc

found_there : (xs : List ℕ) (i x : ℕ) → slice_get xs i ≡ Some x → place_of xs x ≡ None → ⊥
found_there [] i x e h = absurd cc
found_there (y ∷ ys) zero x e h = let same : y ≡ x = cc in eqb-false y x (none_cons y x ys h).0 same
found_there (y ∷ ys) (suc i) x e h = found_there ys i x e (none_cons y x ys h).1

pub different_places : (xs : List ℕ) → AreDifferent xs → (i j x : ℕ) → slice_get xs i ≡ Some x → slice_get xs j ≡ Some x → i ≡ j
different_places [] h i j x e f = absurd cc
different_places (y ∷ ys) h zero zero x e f = refl
different_places (y ∷ ys) h zero (suc j) x e f = let same : y ≡ x = cc in absurd (found_there ys j x f (subst (λ z. place_of ys z ≡ None) same h.0))
different_places (y ∷ ys) h (suc i) zero x e f = let same : y ≡ x = cc in absurd (found_there ys i x e (subst (λ z. place_of ys z ≡ None) same h.0))
different_places (y ∷ ys) h (suc i) (suc j) x e f = ap suc (different_places ys h.1 i j x e f)

-- A place is within.
pub place_within : (xs : List ℕ) (x i : ℕ) → place_of xs x ≡ Some i → i < length xs
place_within [] x i e = absurd cc
place_within (y ∷ ys) x i e = go (eqb y x) (place_of ys x) i e (λ j q. place_within ys x j q) where
  go : (b : Bool) (o : Option ℕ) (i : ℕ) → cond b (Some 0) (next_place o) ≡ Some i → ((j : ℕ) → o ≡ Some j → j < length ys) → i < length (y ∷ ys)
  go true o i e h = let z : 0 ≡ i = cc in omega (arith, z)
  go false None i e h = absurd cc
  go false (Some j) i e h = let z : suc j ≡ i = cc in let l = h j refl in omega (arith, z, l)
