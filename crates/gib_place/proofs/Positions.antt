-- The place in a list tells numbers apart.
use Rattle.std.proofs.Common.{◌≡◌, ℕ, zero, suc, ◌+◌, ◌<◌, Bool, true, false, ◌||◌, ◌==◌, if◌then◌else◌, List, [], ◌∷◌, ◌++◌, map, length, refl, sym, ap, ◌∙◌, arith}
use Rattle.std.proofs.lemmas.Bool.{eqb-true, eq-eqb, both_ways, false_from_ne_true}
use Rattle.gib_core.specs.Inferring.{numbers_from}
use Rattle.gib_place.specs.Renaming.{Renaming}
use Rattle.gib_place.specs.Numbering.{place_in}

-- A renaming that tells numbers apart.
abbrev pub Tells : Renaming → Type 0
Tells r = (x y : ℕ) → (r x == r y) ≡ (x == y)

suc_same : (m n : ℕ) (b : Bool) → (m == n) ≡ b → (suc m == suc n) ≡ b
suc_same m n true e = let same : m ≡ n = eqb-true m n e in eq-eqb (suc m) (suc n) (ap suc same)
suc_same m n false e = false_from_ne_true (suc m == suc n) (λ h. let same : suc m ≡ suc n = eqb-true (suc m) (suc n) h in both_ways (m == n) e (eq-eqb m n (omega arith)))

no_zero : (m : ℕ) → (suc m == 0) ≡ false
no_zero m = false_from_ne_true (suc m == 0) (λ h. let same : suc m ≡ 0 = eqb-true (suc m) 0 h in omega arith)

no_suc : (m : ℕ) → (0 == suc m) ≡ false
no_suc m = false_from_ne_true (0 == suc m) (λ h. let same : 0 ≡ suc m = eqb-true 0 (suc m) h in omega arith)

place_step : (z x y m n : ℕ) (a b : Bool) → (m == n) ≡ (x == y) → (z == x) ≡ a → (z == y) ≡ b → ((if a then 0 else suc m) == (if b then 0 else suc n)) ≡ (x == y)
place_step z x y m n true true h p q = sym (eq-eqb x y (sym (eqb-true z x p) ∙ eqb-true z y q))
place_step z x y m n true false h p q = no_suc n ∙ sym (false_from_ne_true (x == y) (λ e. both_ways (z == y) q (eq-eqb z y (eqb-true z x p ∙ eqb-true x y e))))
place_step z x y m n false true h p q = no_zero m ∙ sym (false_from_ne_true (x == y) (λ e. both_ways (z == x) p (eq-eqb z x (eqb-true z y q ∙ sym (eqb-true x y e)))))
place_step z x y m n false false h p q = suc_same m n (m == n) refl ∙ h

pub place_tells : (xs : List ℕ) → Tells (place_in xs)
place_tells [] x y = refl
place_tells (z ∷ xs) x y = place_step z x y (place_in xs x) (place_in xs y) (z == x) (z == y) (place_tells xs x y) refl refl

pub tells_apart : (r : Renaming) → Tells r → (x y : ℕ) → r x ≡ r y → x ≡ y
tells_apart r t x y e = eqb-true x y (sym (t x y) ∙ eq-eqb (r x) (r y) e)

-- A number is in a list.
abbrev pub in_list : List ℕ → ℕ → Bool
in_list [] x = false
in_list (y ∷ ys) x = y == x || in_list ys x

-- The numbers of a list differ.
abbrev pub Differ : List ℕ → Type 0
Differ [] = Unit {0}
Differ (x ∷ xs) = (in_list xs x ≡ false) × Differ xs

turn : (x y : ℕ) → (x == y) ≡ false → (y == x) ≡ false
turn x y e = false_from_ne_true (y == x) (λ same. both_ways (x == y) e (eq-eqb x y (sym (eqb-true y x same))))

-- One more number before the list.

shift : (y : ℕ) (ws zs : List ℕ) → in_list zs y ≡ false → map (place_in (y ∷ ws)) zs ≡ map (λ z. suc (place_in ws z)) zs
shift y ws [] e = refl
shift y ws (z ∷ zs) e = go (z == y) refl e (shift y ws zs)
  where
    go : (b : Bool) → (z == y) ≡ b → (b || in_list zs y) ≡ false → (in_list zs y ≡ false → map (place_in (y ∷ ws)) zs ≡ map (λ z. suc (place_in ws z)) zs) → map (place_in (y ∷ ws)) (z ∷ zs) ≡ map (λ z. suc (place_in ws z)) (z ∷ zs)
    go true p q h = absurd cc
    go false p q h = λ i. (if turn z y p i then 0 else suc (place_in ws z)) ∷ h q i

sucs_map : (zs : List ℕ) (f : ℕ → ℕ) → map (λ z. suc (f z)) zs ≡ map suc (map f zs)
sucs_map [] f = refl
sucs_map (z ∷ zs) f = ap (λ l. suc (f z) ∷ l) (sucs_map zs f)

sucs_from : (n count : ℕ) → map suc (numbers_from n count) ≡ numbers_from (suc n) count
sucs_from n zero = refl
sucs_from n (suc count) = ap (λ l. suc n ∷ l) (sucs_from (suc n) count)

not_right : (xs ys : List ℕ) (x : ℕ) → in_list (xs ++ ys) x ≡ false → in_list ys x ≡ false
not_right [] ys x e = e
not_right (z ∷ xs) ys x e = go (z == x) e (not_right xs ys x)
  where
    go : (b : Bool) → (b || in_list (xs ++ ys) x) ≡ false → (in_list (xs ++ ys) x ≡ false → in_list ys x ≡ false) → in_list ys x ≡ false
    go true e h = absurd cc
    go false e h = h e

-- Numbers behind others that differ from them have the places behind these.
pub places_behind : (xs ys : List ℕ) → Differ (xs ++ ys) → map (place_in (xs ++ ys)) ys ≡ numbers_from (length xs) (length ys)
places_behind [] [] d = refl
places_behind [] (y ∷ ys) d =
    λ i. (if eq-eqb y y refl i then 0 else suc (place_in ys y)) ∷ (shift y ys ys d.0 ∙ (sucs_map ys (place_in ys) ∙ (ap (map suc) (places_behind [] ys d.1) ∙ sucs_from 0 (length ys)))) i
places_behind (x ∷ xs) ys d =
    shift x (xs ++ ys) ys (not_right xs ys x d.0) ∙ (sucs_map ys (place_in (xs ++ ys)) ∙ (ap (map suc) (places_behind xs ys d.1) ∙ sucs_from (length xs) (length ys)))

-- The first numbers stay.
pub first_stay : (k n : ℕ) (ys : List ℕ) (i : ℕ) → i < n → place_in (numbers_from k n ++ ys) (k + i) ≡ i
first_stay k zero ys i h = omega arith
first_stay k (suc n) ys zero h = ap (λ b. if b then 0 else suc (place_in (numbers_from (suc k) n ++ ys) (k + 0))) (eq-eqb k (k + 0) (omega arith))
first_stay k (suc n) ys (suc i) h =
    let differs : (k == k + suc i) ≡ false = false_from_ne_true (k == k + suc i) (λ e. let same : k ≡ k + suc i = eqb-true k (k + suc i) e in omega arith) in
    let moved : k + suc i ≡ suc k + i = omega arith in
    ap (λ b. if b then 0 else suc (place_in (numbers_from (suc k) n ++ ys) (k + suc i))) differs
    ∙ (ap (λ m. suc (place_in (numbers_from (suc k) n ++ ys) m)) moved ∙ ap suc (first_stay (suc k) n ys i (omega arith)))
