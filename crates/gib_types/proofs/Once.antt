-- A new type goes last, and all stay each once.
use Rattle.std.proofs.Common.{◌≡◌, ℕ, zero, suc, ◌+◌, ◌<◌, ◌≤◌, ◌==◌, ◌&&◌, ◌||◌, Bool, true, false, cond, List, [], ◌∷◌, ◌++◌, length, Option, Some, None, slice_get, refl, sym, ap, ◌∙◌, arith, subst, true≢false, length-append}
use Rattle.gib_types.specs.declared.types.TypeId.{TypeId}
use Rattle.gib_types.specs.declared.types.TypeNode.{TypeNode}
use Rattle.gib_types.specs.declared.types.TypeNode.TheVariants as t
use Rattle.gib_types.specs.Types.{form_at, forms_at, form_from, AreBelow, ArgumentsBelow, forms_onto, forms_of, AreOnce, IsNew, cut, short_words, AreTypes}
use Rattle.gib_types.specs.Form.{Form, DataForm, MoreForms}
use Rattle.gib_types.specs.Form.{form_or}
use Rattle.gib_types.specs.Form.{words}

-- lists with one more

pub get_front : {A : Type 0} (xs more : List A) (i : ℕ) → i < length xs → slice_get (xs ++ more) i ≡ slice_get xs i
get_front [] more i l = absurd (omega (arith, l))
get_front (x ∷ xs) more zero l = refl
get_front (x ∷ xs) more (suc i) l = get_front xs more i (omega (arith, l))

pub get_last : {A : Type 0} (xs : List A) (x : A) → slice_get (xs ++ x ∷ []) (length xs) ≡ Some x
get_last [] x = refl
get_last (y ∷ xs) x = get_last xs x

pub get_below : {A : Type 0} (xs : List A) (i : ℕ) (x : A) → slice_get xs i ≡ Some x → i < length xs
get_below [] i x e = absurd cc
get_below (y ∷ xs) zero x e = omega arith
get_below (y ∷ xs) (suc i) x e = let l = get_below xs i x e in omega (arith, l)

pub data Place {A : Type 0} (xs : List A) (x : A) (i : ℕ) (y : A) : Type 0 where
  before : slice_get xs i ≡ Some y → Place xs x i y
  last : i ≡ length xs → y ≡ x → Place xs x i y

place_after : {A : Type 0} (z : A) (xs : List A) (x : A) (i : ℕ) (y : A) → Place xs x i y → Place (z ∷ xs) x (suc i) y
place_after z xs x i y (before e) = before e
place_after z xs x i y (last e f) = last (ap suc e) f

pub place : {A : Type 0} (xs : List A) (x : A) (i : ℕ) (y : A) → slice_get (xs ++ x ∷ []) i ≡ Some y → Place xs x i y
place [] x zero y e = last refl (let f = e in cc)
place [] x (suc i) y e = absurd cc
place (z ∷ xs) x zero y e = before e
place (z ∷ xs) x (suc i) y e = place_after z xs x i y (place xs x i y e)

pub length_last : {A : Type 0} (xs : List A) (x : A) → length (xs ++ x ∷ []) ≡ length xs + 1
length_last [] x = refl
length_last (y ∷ xs) x = let e = length_last xs x in omega (arith, e)

-- the types of nodes with one more

push_onto : (fs : List Form) (ns : List TypeNode) (n : TypeNode) → forms_onto fs (ns ++ n ∷ []) ≡ forms_onto fs ns ++ form_from (forms_onto fs ns) n ∷ []
push_onto fs [] n = refl
push_onto fs (m ∷ ns) n = push_onto (fs ++ form_from fs m ∷ []) ns n

pub forms_push : (ns : List TypeNode) (n : TypeNode) → forms_of (ns ++ n ∷ []) ≡ forms_of ns ++ form_from (forms_of ns) n ∷ []
forms_push ns n = push_onto [] ns n

-- what stands before stays

pub forms_more : (fs more : List Form) (b : ℕ) (is : List TypeId) → AreBelow b is → b ≤ length fs → forms_at (fs ++ more) is ≡ forms_at fs is
forms_more fs more b [] h l = refl
forms_more fs more b (i ∷ is) h l =
    ap (λ o. MoreForms (form_or o) (forms_at (fs ++ more) is)) (get_front fs more i.0 (let k = h.0 in omega (arith, k, l))) ∙ ap (MoreForms (form_at fs i.0)) (forms_more fs more b is h.1 l)

pub form_more : (fs more : List Form) (b : ℕ) (n : TypeNode) → ArgumentsBelow b n → b ≤ length fs → form_from (fs ++ more) n ≡ form_from fs n
form_more fs more b t.Whole h l = refl
form_more fs more b t.Truth h l = refl
form_more fs more b (t.Variable x) h l = refl
form_more fs more b (t.Data x is) h l = ap (DataForm x) (forms_more fs more b is.items h l)

-- a new type leaves all each once

both : (fs : List Form) (f : Form) (i j : ℕ) (g : Form) → AreOnce fs → IsNew fs f → Place fs f i g → Place fs f j g → i ≡ j
both fs f i j g a new (before p) (before q) = a.once i j g p q
both fs f i j g a new (before p) (last q e) = absurd (new.absent i (p ∙ ap Some e))
both fs f i j g a new (last p e) (before q) = absurd (new.absent j (q ∙ ap Some e))
both fs f i j g a new (last p e) (last q d) = p ∙ sym q

once_push : (fs : List Form) (f : Form) → AreOnce fs → IsNew fs f → AreOnce (fs ++ f ∷ [])
once_push fs f a new = record { once = λ i j g p q. both fs f i j g a new (place fs f i g p) (place fs f j g q) }

module _ (ns : List TypeNode) (counts : List ℕ) (n : TypeNode) (w : ℕ) (a : AreTypes ns counts) (b : ArgumentsBelow (length ns) n) (room : length ns < 4294967296) where
  below_at : (i : ℕ) (m : TypeNode) → Place ns n i m → ArgumentsBelow i m
  below_at i m (before e) = a.below i m e
  below_at i m (last e f) = subst (λ k. ArgumentsBelow k m) (sym e) (subst (ArgumentsBelow (length ns)) (sym f) b)

  stays : (m : TypeNode) (i : ℕ) → ArgumentsBelow i m → i ≤ length ns → form_from (forms_of ns ++ form_from (forms_of ns) n ∷ []) m ≡ form_from (forms_of ns) m
  stays m i h l = form_more (forms_of ns) (form_from (forms_of ns) n ∷ []) i m h (let k = a.many in omega (arith, k, l))

  forms_place : (i : ℕ) (m : TypeNode) → Place ns n i m → slice_get (forms_of ns ++ form_from (forms_of ns) n ∷ []) i ≡ Some (form_from (forms_of ns ++ form_from (forms_of ns) n ∷ []) m)
  forms_place i m (before e) =
      let l = get_below ns i m e in
      get_front (forms_of ns) (form_from (forms_of ns) n ∷ []) i (let k = a.many in omega (arith, k, l)) ∙ a.forms i m e ∙ ap Some (sym (stays m i (a.below i m e) (omega (arith, l))))
  forms_place i m (last e f) =
      let at : i ≡ length (forms_of ns) = e ∙ sym a.many in
      ap (slice_get (forms_of ns ++ form_from (forms_of ns) n ∷ [])) at ∙ get_last (forms_of ns) (form_from (forms_of ns) n)
      ∙ ap Some (sym (stays n (length ns) b (omega arith)) ∙ ap (form_from (forms_of ns ++ form_from (forms_of ns) n ∷ [])) (sym f))

  forms_of_more : (i : ℕ) (m : TypeNode) → slice_get (ns ++ n ∷ []) i ≡ Some m → slice_get (forms_of (ns ++ n ∷ [])) i ≡ Some (form_from (forms_of (ns ++ n ∷ [])) m)
  forms_of_more i m e = rw (forms_push ns n) (forms_place i m (place ns n i m e))

  short_at : w ≡ cut (words (form_from (forms_of ns) n)) → (i : ℕ) → i < length ns + 1 → (c : Bool) → Rattle.std.proofs.Common.nat_lt i (length ns) ≡ c
      → slice_get (counts ++ w ∷ []) i ≡ short_words (slice_get (forms_of ns ++ form_from (forms_of ns) n ∷ []) i)
  short_at e i l true c =
      let m : i < length ns = Rattle.std.proofs.lemmas.Bool.ltb-true i (length ns) c in
      get_front counts (w ∷ []) i (let k = a.counted in omega (arith, k, m)) ∙ a.short i m
      ∙ ap short_words (sym (get_front (forms_of ns) (form_from (forms_of ns) n ∷ []) i (let k = a.many in omega (arith, k, m))))
  short_at e i l false c =
      let m = Rattle.std.proofs.lemmas.Bool.ltb-false i (length ns) c in
      let at : i ≡ length counts = (let k = a.counted in omega (arith, k, m, l)) in
      let there : i ≡ length (forms_of ns) = (let k = a.many in omega (arith, k, m, l)) in
      ap (slice_get (counts ++ w ∷ [])) at ∙ get_last counts w ∙ ap Some e ∙ ap short_words (sym (ap (slice_get (forms_of ns ++ form_from (forms_of ns) n ∷ [])) there ∙ get_last (forms_of ns) (form_from (forms_of ns) n)))

  pub AreTypes-push : IsNew (forms_of ns) (form_from (forms_of ns) n) → w ≡ cut (words (form_from (forms_of ns) n)) → AreTypes (ns ++ n ∷ []) (counts ++ w ∷ [])
  AreTypes-push new e = record {
    few = (let k = length_last ns n in omega (arith, k, room));
    many = ap length (forms_push ns n) ∙ length_last (forms_of ns) (form_from (forms_of ns) n) ∙ ap (λ k. k + 1) a.many ∙ sym (length_last ns n);
    counted = length_last counts w ∙ ap (λ k. k + 1) a.counted ∙ sym (length_last ns n);
    below = λ i m p. below_at i m (place ns n i m p);
    forms = forms_of_more;
    once = subst AreOnce (sym (forms_push ns n)) (once_push (forms_of ns) (form_from (forms_of ns) n) a.once new);
    short = λ i l. rw (forms_push ns n) (short_at e i (let k = length_last ns n in omega (arith, k, l)) (Rattle.std.proofs.Common.nat_lt i (length ns)) refl);
  }
