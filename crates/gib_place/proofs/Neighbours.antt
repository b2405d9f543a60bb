-- Variables one behind another, from a first one on.
use Rattle.std.proofs.Common.{◌≡◌, ℕ, zero, suc, ◌+◌, ◌<◌, ◌≤◌, false, ◌||◌, ◌==◌, nat_lt, List, [], ◌∷◌, ◌++◌, map, length, take, refl, sym, ap, ◌∙◌, subst, arith, ⊎_elim}
use Rattle.std.proofs.str.Laws.{order}
use Rattle.std.proofs.lemmas.Bool.{eqb-true, eq-eqb, false_from_ne_true, lt-ltb, le-ltb}
use Rattle.std.proofs.lemmas.List.{take_all}
use Rattle.gib_core.specs.declared.atom.Variable.{Variable}
use Rattle.gib_core.specs.Tree.{variables_from}
use Rattle.gib_core.specs.Rules.{is_among}
use Rattle.gib_core.specs.Noted.{Seen, Notes}
use Rattle.gib_place.specs.Late.{NotesAll}
use Rattle.gib_place.specs.Renaming.{Renaming, rename_variable}
use Rattle.gib_place.proofs.Timing.{notes_none, notes_one, notes_then}

further_less : (m n : ℕ) → nat_lt (suc m) (suc n) ≡ nat_lt m n
further_less m n = ⊎_elim (λ less. lt-ltb (suc m) (suc n) (omega arith) ∙ sym (lt-ltb m n less)) (λ more. le-ltb (suc m) (suc n) (omega arith) ∙ sym (le-ltb m n more)) (order m n)

-- One of them is so far behind the first one as there are variables.
pub among_behind : {A : Type 0} (xs : List A) (n d y : ℕ) → y ≡ n + d → is_among (variables_from n xs) (record { 0 = y }) ≡ nat_lt d (length xs)
among_behind [] n d y e = sym (le-ltb d 0 (omega arith))
among_behind (x ∷ xs) n zero y e =
    let same : n ≡ y = omega arith in
    ap (λ b. b || is_among (variables_from (n + 1) xs) (record { 0 = y })) (eq-eqb n y same) ∙ sym (lt-ltb 0 (suc (length xs)) (omega arith))
among_behind (x ∷ xs) n (suc d) y e =
    let differs : (n == y) ≡ false = false_from_ne_true (n == y) (λ h. let same : n ≡ y = eqb-true n y h in omega arith) in
    ap (λ b. b || is_among (variables_from (n + 1) xs) (record { 0 = y })) differs ∙ (among_behind xs (n + 1) d y (omega arith) ∙ sym (further_less d (length xs)))

-- None of them is before the first one.
pub among_before : {A : Type 0} (xs : List A) (n y : ℕ) → y < n → is_among (variables_from n xs) (record { 0 = y }) ≡ false
among_before [] n y lt = refl
among_before (x ∷ xs) n y lt =
    let differs : (n == y) ≡ false = false_from_ne_true (n == y) (λ h. let same : n ≡ y = eqb-true n y h in omega arith) in
    ap (λ b. b || is_among (variables_from (n + 1) xs) (record { 0 = y })) differs ∙ among_before xs (n + 1) y (omega arith)

-- One more of them.
one_further : {A : Type 0} (xs : List A) (n i : ℕ) → i < length xs → variables_from n (take (i + 1) xs) ≡ variables_from n (take i xs) ++ record { 0 = n + i } ∷ []
one_further [] n i lt = absurd (omega arith)
one_further (x ∷ xs) n zero lt = let e : n ≡ n + 0 = omega arith in λ k. record { 0 = e k } ∷ []
one_further (x ∷ xs) n (suc i) lt =
    let e : n + 1 + i ≡ n + suc i = omega arith in
    let next : suc i + 1 ≡ suc (i + 1) = omega arith in
    ap (λ k. variables_from n (take k (x ∷ xs))) next
    ∙ ap (λ zs. record { 0 = n } ∷ zs) (one_further xs (n + 1) i (omega arith) ∙ (λ k. variables_from (n + 1) (take i xs) ++ record { 0 = e k } ∷ []))

-- They are noted, one after another.
pub noted_next : {A : Type 0} (xs : List A) (n i : ℕ) (x : Variable) (old now new : Seen) → i < length xs → x.0 ≡ n + i → NotesAll old now (variables_from n (take i xs)) → Notes now new x → NotesAll old new (variables_from n (take (i + 1) xs))
noted_next xs n i x old now new lt e h m =
    subst (NotesAll old new) (sym (one_further xs n i lt)) (notes_then old now new (variables_from n (take i xs)) (record { 0 = n + i } ∷ []) h (notes_one now new (record { 0 = n + i }) (subst (λ y. Notes now new (record { 0 = y })) e m)))

pub noted_all : {A : Type 0} (xs : List A) (n i : ℕ) (old now : Seen) → length xs ≤ i → NotesAll old now (variables_from n (take i xs)) → NotesAll old now (variables_from n xs)
noted_all xs n i old now le h = subst (λ ys. NotesAll old now (variables_from n ys)) (take_all i xs le) h

-- Their numbers are one behind another too.
pub renamed_all : {A : Type 0} (r : Renaming) (xs : List A) (m n i : ℕ) → length xs ≤ i → ((j : ℕ) → j < i → r (n + j) ≡ m + j) → variables_from m xs ≡ map (rename_variable r) (variables_from n xs)
renamed_all r [] m n i le h = refl
renamed_all r (x ∷ xs) m n i le h =
    let first : m ≡ r n = (let e = h 0 (omega arith) in let z : n + 0 ≡ n = omega arith in let w = ap r z in omega arith) in
    λ k. record { 0 = first k } ∷ renamed_all r xs (m + 1) (n + 1) (length xs) (omega arith) (λ j lt. let z : n + 1 + j ≡ n + suc j = omega arith in ap r z ∙ (h (suc j) (omega arith) ∙ (let w : m + suc j ≡ m + 1 + j = omega arith in w))) k

pub renamed_next : (r : Renaming) (m n i due : ℕ) (x y : Variable) → ((j : ℕ) → j < i → r (n + j) ≡ m + j) → x.0 ≡ n + i → y ≡ rename_variable r x → due ≡ m + i → y.0 ≡ due → (j : ℕ) → j < i + 1 → r (n + j) ≡ m + j
renamed_next r m n i due x y h ex ey ed same j lt = ⊎_elim (λ less. h j less) (λ more. let is : j ≡ i = omega arith in ap (λ k. r (n + k)) is ∙ (ap r (sym ex) ∙ (sym (ap (λ (z : Variable). z.0) ey) ∙ (let w : y.0 ≡ m + j = omega arith in w)))) (order j i)
