-- Sums that stop at 65.
use Rattle.std.proofs.Common.{◌≡◌, ℕ, zero, suc, ◌+◌, ◌<◌, ◌≤◌, nat_lt, Bool, true, false, cond, List, [], ◌∷◌, drop, Some, None, slice_get, refl, sym, ap, ◌∙◌, arith, subst}
use Rattle.std.proofs.lemmas.Bool.{ltb-true, ltb-false}
use Rattle.gib_types.specs.declared.types.TypeId.{TypeId}
use Rattle.gib_types.specs.Types.{forms_at, form_at, cut, short_words}
use Rattle.gib_types.specs.Form.{Form}
use Rattle.gib_types.specs.Form.{form_or}
use Rattle.gib_types.specs.Form.{words, all_words, has_long}

pub data Cut (n : ℕ) : Type 0 where
  low : n < 65 → cut n ≡ n → Cut n
  high : 65 ≤ n → cut n ≡ 65 → Cut n

cut_by : (n : ℕ) (b : Bool) → nat_lt n 65 ≡ b → Cut n
cut_by n true e = low (ltb-true n 65 e) (rw e refl)
cut_by n false e = high (ltb-false n 65 e) (rw e refl)

pub cut_case : (n : ℕ) → Cut n
cut_case n = cut_by n (nat_lt n 65) refl

again : (s a r : ℕ) → Cut a → Cut (s + cut a) → Cut (s + (a + r)) → Cut (cut (s + cut a) + r) → cut (cut (s + cut a) + r) ≡ cut (s + (a + r))
again s a r (low l1 e1) (low l2 e2) (low l3 e3) (low l4 e4) = omega (arith, l1, e1, l2, e2, l3, e3, l4, e4)
again s a r (low l1 e1) (low l2 e2) (low l3 e3) (high l4 e4) = omega (arith, l1, e1, l2, e2, l3, e3, l4, e4)
again s a r (low l1 e1) (low l2 e2) (high l3 e3) (low l4 e4) = omega (arith, l1, e1, l2, e2, l3, e3, l4, e4)
again s a r (low l1 e1) (low l2 e2) (high l3 e3) (high l4 e4) = omega (arith, l1, e1, l2, e2, l3, e3, l4, e4)
again s a r (low l1 e1) (high l2 e2) (low l3 e3) c = omega (arith, l1, e1, l2, e2, l3, e3)
again s a r (low l1 e1) (high l2 e2) (high l3 e3) (low l4 e4) = omega (arith, l1, e1, l2, e2, l3, e3, l4, e4)
again s a r (low l1 e1) (high l2 e2) (high l3 e3) (high l4 e4) = omega (arith, l1, e1, l2, e2, l3, e3, l4, e4)
again s a r (high l1 e1) b (low l3 e3) c = omega (arith, l1, e1, l3, e3)
again s a r (high l1 e1) (low l2 e2) (high l3 e3) c = omega (arith, l1, e1, l2, e2)
again s a r (high l1 e1) (high l2 e2) (high l3 e3) (low l4 e4) = omega (arith, l1, e1, l2, e2, l3, e3, l4, e4)
again s a r (high l1 e1) (high l2 e2) (high l3 e3) (high l4 e4) = omega (arith, l1, e1, l2, e2, l3, e3, l4, e4)

-- a sum that stopped early goes on as the whole one does
pub cut_again : (s a r : ℕ) → cut (cut (s + cut a) + r) ≡ cut (s + (a + r))
cut_again s a r = again s a r (cut_case a) (cut_case (s + cut a)) (cut_case (s + (a + r))) (cut_case (cut (s + cut a) + r))

pub cut_low : (s : ℕ) → s ≤ 65 → Cut s → cut s ≡ s
cut_low s l (low m e) = e
cut_low s l (high m e) = omega (arith, l, m, e)

drop_next : (xs : List TypeId) (i : ℕ) (x : TypeId) → slice_get xs i ≡ Some x → drop i xs ≡ x ∷ drop (suc i) xs
drop_next [] i x e = absurd cc
drop_next (y ∷ xs) zero x e = let f : y ≡ x = (let g = e in cc) in ap (λ z. z ∷ xs) f
drop_next (y ∷ xs) (suc i) x e = drop_next xs i x e

some_words : (f : Form) (o : _) (w : ℕ) → Some w ≡ short_words o → w ≡ cut (words (form_or o))
some_words f None w e = absurd cc
some_words f (Some g) w e = let h = e in cc

pub next_sum : (fs : List Form) (xs : List TypeId) (i : ℕ) (x : TypeId) (s w t total : ℕ) → slice_get xs i ≡ Some x → Some w ≡ short_words (slice_get fs x.0) → t ≡ cut (s + w)
    → cut (s + all_words (forms_at fs (drop i xs))) ≡ total → cut (t + all_words (forms_at fs (drop (suc i) xs))) ≡ total
next_sum fs xs i x s w t total e h k m =
    let w_is = some_words (form_at fs x.0) (slice_get fs x.0) w h in
    let t_is : t ≡ cut (s + cut (words (form_at fs x.0))) = k ∙ ap (λ n. cut (s + n)) w_is in
    ap (λ n. cut (n + all_words (forms_at fs (drop (suc i) xs)))) t_is ∙ cut_again s (words (form_at fs x.0)) (all_words (forms_at fs (drop (suc i) xs)))
    ∙ ap (λ ys. cut (s + all_words (forms_at fs ys))) (sym (drop_next xs i x e)) ∙ m

drop_all : (xs : List TypeId) (n : ℕ) → Rattle.std.proofs.Common.length xs ≤ n → drop n xs ≡ []
drop_all [] zero l = refl
drop_all [] (suc n) l = refl
drop_all (x ∷ xs) zero l = absurd (omega (arith, l))
drop_all (x ∷ xs) (suc n) l = drop_all xs n (omega (arith, l))

pub last_sum : (fs : List Form) (xs : List TypeId) (i s total : ℕ) → Rattle.std.proofs.Common.length xs ≤ i → s ≤ 65
    → cut (s + all_words (forms_at fs (drop i xs))) ≡ total → s ≡ total
last_sum fs xs i s total l few m =
    let e : cut (s + 0) ≡ total = ap (λ ys. cut (s + all_words (forms_at fs ys))) (sym (drop_all xs i l)) ∙ m in
    let z : s + 0 ≡ s = omega arith in
    sym (cut_low s few (cut_case s)) ∙ ap cut (sym z) ∙ e

pub first_sum : (n total : ℕ) → cut (n + 1) ≡ total → cut (1 + n) ≡ total
first_sum n total e = let f : 1 + n ≡ n + 1 = omega arith in ap cut f ∙ e

pub next_place : (fs : List Form) (xs : List TypeId) (s i total : ℕ) → cut (s + all_words (forms_at fs (drop (suc i) xs))) ≡ total → cut (s + all_words (forms_at fs (drop (i + 1) xs))) ≡ total
next_place fs xs s i total e = let f : i + 1 ≡ suc i = omega arith in ap (λ n. cut (s + all_words (forms_at fs (drop n xs)))) f ∙ e

high_words : (n w : ℕ) → w ≡ cut n → 64 < w → nat_lt 64 n ≡ true
high_words n w e l = by n w e l (cut_case n) where
  by : (n w : ℕ) → w ≡ cut n → 64 < w → Cut n → nat_lt 64 n ≡ true
  by n w e l (low m f) = absurd (omega (arith, e, l, m, f))
  by n w e l (high m f) = borrow.Author.Tests.lt-ltb 64 n (omega (arith, m))

low_words : (n w : ℕ) → w ≡ cut n → w ≤ 64 → nat_lt 64 n ≡ false
low_words n w e l = by n w e l (cut_case n) where
  by : (n w : ℕ) → w ≡ cut n → w ≤ 64 → Cut n → nat_lt 64 n ≡ false
  by n w e l (low m f) = Rattle.std.proofs.lemmas.Bool.le-ltb 64 n (omega (arith, e, l, m, f))
  by n w e l (high m f) = absurd (omega (arith, e, l, m, f))

pub long_here : (fs : List Form) (xs : List TypeId) (i : ℕ) (x : TypeId) (w : ℕ) → slice_get xs i ≡ Some x → Some w ≡ short_words (slice_get fs x.0) → 64 < w → has_long (forms_at fs (drop i xs)) ≡ true
long_here fs xs i x w e h l =
    let b = high_words (words (form_at fs x.0)) w (some_words (form_at fs x.0) (slice_get fs x.0) w h) l in
    ap (λ ys. has_long (forms_at fs ys)) (drop_next xs i x e) ∙ (rw b refl)

pub long_next : (fs : List Form) (xs : List TypeId) (i : ℕ) (x : TypeId) (w : ℕ) → slice_get xs i ≡ Some x → Some w ≡ short_words (slice_get fs x.0) → w ≤ 64 → has_long (forms_at fs (drop i xs)) ≡ has_long (forms_at fs (drop (i + 1) xs))
long_next fs xs i x w e h l =
    let b = low_words (words (form_at fs x.0)) w (some_words (form_at fs x.0) (slice_get fs x.0) w h) l in
    let f : suc i ≡ i + 1 = omega arith in
    ap (λ ys. has_long (forms_at fs ys)) (drop_next xs i x e) ∙ (rw b refl) ∙ ap (λ n. has_long (forms_at fs (drop n xs))) f

pub long_none : (fs : List Form) (xs : List TypeId) (i : ℕ) → Rattle.std.proofs.Common.length xs ≤ i → has_long (forms_at fs (drop i xs)) ≡ false
long_none fs xs i l = ap (λ ys. has_long (forms_at fs ys)) (drop_all xs i l)
