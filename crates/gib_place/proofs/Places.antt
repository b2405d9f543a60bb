-- The places of a list, and one more number behind it.
use Rattle.std.proofs.lemmas.List.{drop_more, drop_all}
use Rattle.std.proofs.Common.{◌≡◌, ℕ, suc, ◌+◌, ◌≤◌, Bool, true, false, ◌==◌, if◌then◌else◌, List, [], ◌∷◌, length, drop, get_or, Option, Some, None, refl, sym, ap, ◌∙◌, subst, arith}
use Rattle.gib_base.specs.Entries.{entry_at}
use Rattle.gib_place.specs.Numbering.{place_in}
use Rattle.gib_place.specs.Numbered.{place_from, ArePlaces}

abbrev IsPlaced : ℕ → List ℕ → ℕ → Option ℕ → Type 0
IsPlaced n xs x None = place_in xs x ≡ x + length xs
IsPlaced n xs x (Some place) = n + place_in xs x ≡ place

placed_step : (b : Bool) (n : ℕ) (xs : List ℕ) (x : ℕ) (o : Option ℕ) → IsPlaced (suc n) xs x o → (y : ℕ) → (y == x) ≡ b → IsPlaced n (y ∷ xs) x (if b then Some n else o)
placed_step true n xs x o h y e = ap (λ (c : Bool). n + (if c then 0 else suc (place_in xs x))) e ∙ (let z : n + 0 ≡ n = omega arith in z)
placed_step false n xs x None h y e = ap (λ (c : Bool). if c then 0 else suc (place_in xs x)) e ∙ (let q = ap suc h in omega arith)
placed_step false n xs x (Some place) h y e = ap (λ (c : Bool). n + (if c then 0 else suc (place_in xs x))) e ∙ (let q = h in omega arith)

is_placed : (n : ℕ) (xs : List ℕ) (x : ℕ) → IsPlaced n xs x (place_from n xs x)
is_placed n [] x = omega arith
is_placed n (y ∷ xs) x = placed_step (y == x) n xs x (place_from (suc n) xs x) (is_placed (suc n) xs x) y refl

at_place : (xs : List ℕ) (x : ℕ) (o : Option ℕ) → place_from 0 xs x ≡ o → IsPlaced 0 xs x o
at_place xs x o e = subst (λ (p : Option ℕ). IsPlaced 0 xs x p) e (is_placed 0 xs x)

pub number_there : (xs ys : List ℕ) (entries : List (Option ℕ)) (x place : ℕ) (r : Option ℕ) → ArePlaces ys entries → ys ≡ xs → r ≡ entry_at entries x → r ≡ Some place → place ≡ place_in xs x
number_there xs ys entries x place r h e g i =
    let there : 0 + place_in xs x ≡ place = at_place xs x (Some place) (ap (λ l. place_from 0 l x) (sym e) ∙ (sym (h x) ∙ (sym g ∙ i))) in omega arith

pub number_behind : (xs ys : List ℕ) (entries : List (Option ℕ)) (x : ℕ) (r : Option ℕ) → ArePlaces ys entries → ys ≡ xs → r ≡ entry_at entries x → r ≡ None → x + length ys ≡ place_in xs x
number_behind xs ys entries x r h e g i =
    ap (λ l. x + length l) e ∙ sym (at_place xs x None (ap (λ l. place_from 0 l x) (sym e) ∙ (sym (h x) ∙ (sym g ∙ i))))

-- Places are set from the last variable to the first.
pub places_start : (xs : List ℕ) (n : ℕ) → n ≡ length xs → (x : ℕ) → entry_at [] x ≡ place_from n (drop n xs) x
places_start xs n e x = sym (ap (λ l. place_from n l x) (drop_all n xs (let l = e in omega arith)))

pub places_next : (xs : List ℕ) (i j y d place : ℕ) (old new : List (Option ℕ)) → j ≡ i + 1 → j ≤ length xs → y ≡ get_or xs i d → place ≡ i → ((x : ℕ) → entry_at old x ≡ place_from j (drop j xs) x)
    → ((o : ℕ) → entry_at new o ≡ (if y == o then Some place else entry_at old o)) → (x : ℕ) → entry_at new x ≡ place_from i (drop i xs) x
places_next xs i j y d place old new ej le e is h set x =
    let left : drop i xs ≡ y ∷ drop (i + 1) xs = drop_more xs i d (omega (arith, ej, le)) ∙ ap (λ (z : ℕ). z ∷ drop (i + 1) xs) (sym e) in
    let further : j ≡ suc i = omega arith in
    set x
    ∙ ((λ k. if y == x then Some (is k) else h x k)
    ∙ ((λ k. if y == x then Some i else place_from (further k) (drop (ej k) xs) x) ∙ sym (ap (λ l. place_from i l x) left)))

pub places_end : (xs : List ℕ) (i : ℕ) (entries : List (Option ℕ)) → i ≡ 0 → ((x : ℕ) → entry_at entries x ≡ place_from i (drop i xs) x) → (x : ℕ) → entry_at entries x ≡ place_from 0 xs x
places_end xs i entries e h x = h x ∙ ap (λ k. place_from k (drop k xs) x) e
