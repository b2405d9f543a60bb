-- Functions and words changed at one place; places; bytes that are put.
use Rattle.std.proofs.Common.{◌≡◌, ℕ, suc, ◌+◌, ◌<◌, ◌≤◌, Bool, true, false, List, [], ◌∷◌, length, cond, eqb, nat_lt, nat_le, slice_set, refl, sym, ap, subst, ◌∙◌, arith}
use Rattle.std.proofs.lemmas.Bool.{eq-eqb, ne_eqb, eqb-true, true≢false}
use Rattle.std.proofs.lemmas.List.{get_or-set_same, get_or-set_other, length-set}
use Rattle.std.proofs.lemmas.Bool.Decides.{nat_tests}
use Rattle.gib_mem.specs.Memory.{Cell, byte, Store, set_cell, Holds, none, more, Grows}
use Rattle.gib_machine.specs.State.{Slots, slot, end_at, set}
use Rattle.gib_weave.specs.EndWords.{WithEnd, both}
use Rattle.gib_core.specs.Fits.{put}
use Rattle.gib_weave.specs.Places.{within, IsSmall, Owned, put_all, AllFresh}
use Rattle.gib_weave.proofs.Cells.{byte_fresh, absent_fresh}
use Rattle.gib_mem.proofs.Puts.{set_same}

-- to prove something of a test, prove it in both cases
pub by_test : (y x : ℕ) (P : Bool → Type 0) → (y ≡ x → P true) → ((y ≡ x → ⊥) → P false) → P (eqb y x)
by_test y x P p q = go (eqb y x) refl
  where
    go : (b : Bool) → eqb y x ≡ b → P b
    go true e = p (eqb-true y x e)
    go false e = q (λ h. absurd (true≢false (sym (eq-eqb y x h) ∙ e)))

pub put-same : {A : Type 0} (f : ℕ → A) (x : ℕ) (v : A) → put f x v x ≡ v
put-same f x v = ap (λ b. cond b v (f x)) (eq-eqb x x refl)

pub put-other : {A : Type 0} (f : ℕ → A) (x y : ℕ) (v : A) → (y ≡ x → ⊥) → put f x v y ≡ f y
put-other f x y v ne = ap (λ b. cond b v (f y)) (ne_eqb y x ne)

-- of each number, of one and of all others
pub one_and_others : (x : ℕ) (P : ℕ → Type 0) → P x → ((y : ℕ) → (y ≡ x → ⊥) → P y) → (y : ℕ) → P y
one_and_others x P h k y = by_test y x (λ b. P y) (λ e. subst P (sym e) h) (k y)

-- of two and of all others
pub two_and_others : (x y : ℕ) (P : ℕ → Type 0) → P x → P y → ((z : ℕ) → (z ≡ x → ⊥) → (z ≡ y → ⊥) → P z) → (z : ℕ) → P z
two_and_others x y P h g k = one_and_others x P h (λ z a. one_and_others y (λ z. (z ≡ x → ⊥) → P z) (λ a. g) (λ z b a. k z a b) z a)

-- the same of the values of a function that was changed at one place
pub put_each : {A : Type 0} (f : ℕ → A) (x : ℕ) (v : A) (P : ℕ → A → Type 0) → P x v → ((y : ℕ) → (y ≡ x → ⊥) → P y (f y)) → (y : ℕ) → P y (put f x v y)
put_each f x v P h k y = by_test y x (λ b. P y (cond b v (f y))) (λ e. subst (λ (q : ℕ). P q v) (sym e) h) (k y)

pub set-same : (sl : Slots) (x w : ℕ) → x < length sl.vars → slot (set sl x w) x ≡ w
set-same sl x w h = get_or-set_same sl.vars x w 0 h

pub set-other : (sl : Slots) (x y w : ℕ) → (y ≡ x → ⊥) → slot (set sl x w) y ≡ slot sl y
set-other sl x y w ne = get_or-set_other sl.vars x y w 0 ne

pub set-length : (sl : Slots) (x w : ℕ) → length (set sl x w).vars ≡ length sl.vars
set-length sl x w = length-set sl.vars x w

-- a slot that is set with its end
abbrev pub set_both : Slots → (x w e : ℕ) → Slots
set_both ws x w e = record { vars = slice_set ws.vars x w; ends = slice_set ws.ends x e }

pub end-same : (sl : Slots) (x w e : ℕ) → x < length sl.ends → end_at (set_both sl x w e) x ≡ e
end-same sl x w e h = get_or-set_same sl.ends x e 0 h

pub end-other : (sl : Slots) (x y w e : ℕ) → (y ≡ x → ⊥) → end_at (set_both sl x w e) y ≡ end_at sl y
end-other sl x y w e ne = get_or-set_other sl.ends x y e 0 ne

pub ends-length : (sl : Slots) (x w e : ℕ) → length (set_both sl x w e).ends ≡ length sl.ends
ends-length sl x w e = length-set sl.ends x e

pub both_is : (w e w' e' : ℕ) → w ≡ w' → e ≡ e' → ◌≡◌ {A = WithEnd} (record { word = w; last = e }) (record { word = w'; last = e' })
both_is w e w' e' p q = λ i. record { word = p i; last = q i }

pub both-same : (sl : Slots) (x w : ℕ) → x < length sl.vars → length sl.ends ≡ length sl.vars → both (set sl x w) x ≡ record { word = w; last = 0 }
both-same sl x w h ev = both_is (slot (set sl x w) x) (end_at (set sl x w) x) w 0 (set-same sl x w h) (end-same sl x w 0 (omega (arith, h, ev)))

pub both-other : (sl : Slots) (x y w e : ℕ) → (y ≡ x → ⊥) → both (set_both sl x w e) y ≡ both sl y
both-other sl x y w e ne = both_is (slot (set sl x w) y) (end_at (set_both sl x w e) y) (slot sl y) (end_at sl y) (set-other sl x y w ne) (end-other sl x y w e ne)

-- a slot behind a change, as a test
pub set-is : (sl : Slots) (x w y : ℕ) → x < length sl.vars → slot (set sl x w) y ≡ cond (eqb y x) w (slot sl y)
set-is sl x w y h = by_test y x (λ b. slot (set sl x w) y ≡ cond b w (slot sl y)) (λ e. ap (slot (set sl x w)) e ∙ set-same sl x w h) (λ e. set-other sl x y w e)

pub within-in : (a n q : ℕ) → a ≤ q → q < a + n → within a n q ≡ 1
within-in a n q h g = grind (arith, nat_tests)

pub within-one : (a n q : ℕ) → within a n q ≤ 1
within-one a n q = grind (arith, nat_tests)

pub within-split : (a k n q : ℕ) → within a (k + n) q ≡ within a k q + within (a + k) n q
within-split a k n q = grind (arith, nat_tests)

pub within-zero : (a q : ℕ) → within a 0 q ≡ 0
within-zero a q = grind (arith, nat_tests)

pub cell-other : (s : Store) (a q : ℕ) (c : Cell) → (q ≡ a → ⊥) → set_cell s a c q ≡ s q
cell-other s a q c ne = put-other s a q c ne

pub put_all-outside : (s : Store) (a : ℕ) (bs : List ℕ) (q : ℕ) → within a (length bs) q ≡ 0 → put_all s a bs q ≡ s q
put_all-outside s a [] q h = refl
put_all-outside s a (b ∷ bs) q h =
    let e : within a (1 + length bs) q ≡ within a 1 q + within (a + 1) (length bs) q = within-split a 1 (length bs) q in
    let l : 1 + length bs ≡ suc (length bs) = omega arith in
    let g : within a (1 + length bs) q ≡ 0 = ap (λ (n : ℕ). within a n q) l ∙ h in
    put_all-outside (set_cell s a (byte b)) (a + 1) bs q (omega (arith, e, g)) ∙ cell-other s a q (byte b) (λ r. not_at r (omega (arith, e, g)))
  where
    not_at : q ≡ a → within a 1 q ≡ 0 → ⊥
    not_at r z = absurd (omega (arith, within-in a 1 q (omega arith) (omega arith)))

pub put_all-holds : (s : Store) (a : ℕ) (bs : List ℕ) → Holds (put_all s a bs) a bs
put_all-holds s a [] = none
put_all-holds s a (b ∷ bs) =
    more (put_all-outside (set_cell s a (byte b)) (a + 1) bs a (grind (arith, nat_tests)) ∙ set_same s a (byte b)) (put_all-holds (set_cell s a (byte b)) (a + 1) bs)

pub outside : (a n q : ℕ) → ((a ≤ q) → (q < a + n) → ⊥) → within a n q ≡ 0
outside a n q h = go (nat_le a q) (nat_lt q (a + n)) refl refl
  where
    go : (b c : Bool) → nat_le a q ≡ b → nat_lt q (a + n) ≡ c → ◌≡◌ {A = ℕ} (cond b (cond c 1 0) 0) 0
    go true true e f = absurd (h (grind (arith, nat_tests)) (grind (arith, nat_tests)))
    go true false e f = refl
    go false c e f = refl

pub put_all-grows : {own : Owned} (s : Store) (a : ℕ) (bs : List ℕ) → AllFresh own s a (length bs) → Grows s (put_all s a bs)
put_all-grows s a bs f = record { kept = λ q b e. put_all-outside s a bs q (outside a (length bs) q (λ h g. byte_fresh (sym e ∙ f.all q h g))) ∙ e }

pub put_fresh : {own : Owned} (s : Store) (a n b : ℕ) → AllFresh own s a (suc n) → AllFresh own (set_cell s a (byte b)) (a + 1) n
put_fresh s a n b f = record { mine = λ q h g. f.mine q (omega arith) (omega arith); all = λ q h g. cell-other s a q (byte b) (λ r. absurd (omega arith)) ∙ f.all q (omega arith) (omega arith) }

pub put_all-small : {own : Owned} (s : Store) (a : ℕ) (bs : List ℕ) → AllFresh own s a (length bs) → IsSmall s → IsSmall (put_all s a bs)
put_all-small s a bs f m = record { small = λ q h. put_all-outside s a bs q (outside a (length bs) q (λ x y. absent_fresh (sym (m.small q h) ∙ f.all q x y))) ∙ m.small q h }
