-- What a look-up says of names, and that a new name leaves them all different.
use Rattle.std.proofs.Common.{◌≡◌, ℕ, zero, suc, ◌+◌, ◌<◌, Bool, true, false, not, cond, ◌||◌, List, [], ◌∷◌, ◌++◌, length, Some, None, slice_get, get_or, position, refl, sym, ap, ◌∙◌, arith, length-append, true≢false}
use borrow.Author.Tests.{lt-ltb}
use Rattle.std.specs.List.{list_any, position_or_len}
use Rattle.std.specs.Str.{bytes_eq}
use Rattle.std.specs.Global.{Vec}
use Rattle.std.proofs.lemmas.List.Quantifiers.{position-Some}
use Rattle.std.proofs.lemmas.List.Sums.{position_or_len_is}
use Rattle.std.proofs.lemmas.Option.{slice_get-get_or}
use Rattle.std.proofs.lemmas.Slice.Eq.{bytes_eq-Decides}
use Rattle.indexmap.specs.IndexSet.{insert_key}
use Rattle.gib_base.specs.Names.{texts_of, holds, number_of, with_name, AreNames}

-- looking up a text among what is kept is looking it up among the texts

prefix-texts : (ks : List (Vec ℕ)) (text : List ℕ) → position_or_len (λ (v : Vec ℕ). bytes_eq text v.items) ks ≡ number_of (texts_of ks) text
prefix-texts [] text = refl
prefix-texts (k ∷ ks) text = ap (λ n. cond (not (bytes_eq text k.items)) (1 + n) 0) (prefix-texts ks text)

pub length-texts : (ks : List (Vec ℕ)) → length (texts_of ks) ≡ length ks
length-texts [] = refl
length-texts (k ∷ ks) = ap suc (length-texts ks)

pub position-texts : (ks : List (Vec ℕ)) (text : List ℕ) → position (λ (v : Vec ℕ). bytes_eq text v.items) ks ≡ position (bytes_eq text) (texts_of ks)
position-texts ks text = rw (prefix-texts ks text, length-texts ks) refl

any-texts : (ks : List (Vec ℕ)) (text : List ℕ) → list_any (λ (v : Vec ℕ). bytes_eq text v.items) ks ≡ holds (texts_of ks) text
any-texts [] text = refl
any-texts (k ∷ ks) text = ap (λ b. bytes_eq text k.items || b) (any-texts ks text)

-- a text that has a place is held there

pub holds_at : (names : List (List ℕ)) (text : List ℕ) (i : ℕ) → slice_get names i ≡ Some text → holds names text ≡ true
holds_at [] text i e = absurd cc
holds_at (n ∷ names) text zero e =
    let same : bytes_eq text n ≡ true = (bytes_eq-Decides text n).1 (let f = e in cc) in
    rw same refl
holds_at (n ∷ names) text (suc i) e = or_right (bytes_eq text n) (holds_at names text i e) where
  or_right : (a : Bool) {b : Bool} → b ≡ true → (a || b) ≡ true
  or_right true e = refl
  or_right false e = e

pub record IsHeldAt (names : List (List ℕ)) (text : List ℕ) (i : ℕ) : Type 0 where
  pub number : i ≡ number_of names text
  pub held : slice_get names i ≡ Some text
  pub holds : holds names text ≡ true
  pub within : i < length names

pub found : (names : List (List ℕ)) (text : List ℕ) (i : ℕ) → position (bytes_eq text) names ≡ Some i → IsHeldAt names text i
found names text i e =
    let p = position-Some (bytes_eq text) names i [] e in
    let there : slice_get names i ≡ Some text = slice_get-get_or names i [] p.0 ∙ ap Some (sym ((bytes_eq-Decides text (get_or names i [])).0 p.1)) in
    record {
      number = sym (position_or_len_is (bytes_eq text) names i [] (omega (arith, p.0)) p.2 (λ lt. p.1));
      held = there;
      holds = holds_at names text i there;
      within = p.0;
    }

-- a text without one is new, and its number is the next

absent_at : (n : List ℕ) (names : List (List ℕ)) (text : List ℕ) (b : Bool) → bytes_eq text n ≡ b → (b || holds names text) ≡ false → (holds names text ≡ false → number_of names text ≡ length names) → number_of (n ∷ names) text ≡ length (n ∷ names)
absent_at n names text true f e h = absurd (true≢false e)
absent_at n names text false f e h = rw (f, h e) (omega arith)

pub absent_place : (names : List (List ℕ)) (text : List ℕ) → holds names text ≡ false → number_of names text ≡ length names
absent_place [] text e = refl
absent_place (n ∷ names) text e = absent_at n names text (bytes_eq text n) refl e (absent_place names text)

held_at : (n : List ℕ) (names : List (List ℕ)) (text : List ℕ) (b : Bool) → bytes_eq text n ≡ b → (b || holds names text) ≡ true → (holds names text ≡ true → number_of names text < length names) → number_of (n ∷ names) text < length (n ∷ names)
held_at n names text true f e h = rw f (omega arith)
held_at n names text false f e h = rw f (omega (arith, h e))

pub held_place : (names : List (List ℕ)) (text : List ℕ) → holds names text ≡ true → number_of names text < length names
held_place [] text e = absurd (true≢false (sym e))
held_place (n ∷ names) text e = held_at n names text (bytes_eq text n) refl e (held_place names text)

-- a text with a place below the length is held

position_held : (names : List (List ℕ)) (text : List ℕ) → holds names text ≡ true → position (bytes_eq text) names ≡ Some (number_of names text)
position_held names text e = rw (lt-ltb _ _ (held_place names text e)) refl

absent_from : (names : List (List ℕ)) (text : List ℕ) (b : Bool) → holds names text ≡ b → position (bytes_eq text) names ≡ None → b ≡ false
absent_from names text true e p = let q = position_held names text e in absurd cc
absent_from names text false e p = refl

pub absent : (names : List (List ℕ)) (text : List ℕ) → position (bytes_eq text) names ≡ None → holds names text ≡ false
absent names text p = absent_from names text (holds names text) refl p

pub with_held : (names : List (List ℕ)) (text : List ℕ) → holds names text ≡ true → with_name names text ≡ names
with_held names text e = rw e refl

pub with_new : (names : List (List ℕ)) (text : List ℕ) → holds names text ≡ false → with_name names text ≡ names ++ text ∷ []
with_new names text e = rw e refl

-- the last of a list with one more

last_is : (names : List (List ℕ)) (text : List ℕ) → slice_get (names ++ text ∷ []) (length names) ≡ Some text
last_is [] text = refl
last_is (n ∷ names) text = last_is names text

pub data Place (names : List (List ℕ)) (text : List ℕ) (i : ℕ) (other : List ℕ) : Type 0 where
  old : slice_get names i ≡ Some other → Place names text i other
  new : i ≡ length names → other ≡ text → Place names text i other

place_after : (n : List ℕ) (names : List (List ℕ)) (text : List ℕ) (i : ℕ) (other : List ℕ) → Place names text i other → Place (n ∷ names) text (suc i) other
place_after n names text i other (old e) = old e
place_after n names text i other (new e f) = new (ap suc e) f

place : (names : List (List ℕ)) (text : List ℕ) (i : ℕ) (other : List ℕ) → slice_get (names ++ text ∷ []) i ≡ Some other → Place names text i other
place [] text zero other e = new refl (let f = e in cc)
place [] text (suc i) other e = absurd cc
place (n ∷ names) text zero other e = old e
place (n ∷ names) text (suc i) other e = place_after n names text i other (place names text i other e)

not_held : (names : List (List ℕ)) (text : List ℕ) (i : ℕ) (other : List ℕ) → holds names text ≡ false → other ≡ text → slice_get names i ≡ Some other → ⊥
not_held names text i other e f g = let h = holds_at names text i (g ∙ ap Some f) in true≢false (sym h ∙ e)

both : (names : List (List ℕ)) (text : List ℕ) (i j : ℕ) (other : List ℕ) → AreNames names → holds names text ≡ false → Place names text i other → Place names text j other → i ≡ j
both names text i j other a e (old p) (old q) = a.differ i j other p q
both names text i j other a e (old p) (new q f) = absurd (not_held names text i other e f p)
both names text i j other a e (new p f) (old q) = absurd (not_held names text j other e f q)
both names text i j other a e (new p f) (new q g) = p ∙ sym q

-- a new name leaves them all different
pub AreNames-push : (names : List (List ℕ)) (text : List ℕ) → AreNames names → holds names text ≡ false → length names < 65535 → AreNames (names ++ text ∷ [])
AreNames-push names text a e lt = record {
  differ = λ i j other p q. both names text i j other a e (place names text i other p) (place names text j other q);
  few = omega (arith, length-append names (text ∷ []));
}

-- the place that the set gives
abbrev pub insert_index_of : List (Vec ℕ) → Vec ℕ → ℕ
insert_index_of ks v = position_or_len (λ (w : Vec ℕ). bytes_eq v.items w.items) ks

-- what the set does is what the names do

map-append : (ks : List (Vec ℕ)) (v : Vec ℕ) → texts_of (ks ++ v ∷ []) ≡ texts_of ks ++ v.items ∷ []
map-append [] v = refl
map-append (k ∷ ks) v = ap (λ (l : List (List ℕ)). k.items ∷ l) (map-append ks v)

inserted_by : (ks : List (Vec ℕ)) (v : Vec ℕ) (b : Bool) → texts_of (cond b ks (ks ++ v ∷ [])) ≡ cond b (texts_of ks) (texts_of ks ++ v.items ∷ [])
inserted_by ks v true = refl
inserted_by ks v false = map-append ks v

pub inserted : (ks : List (Vec ℕ)) (v : Vec ℕ) → texts_of (insert_key (λ (a b : Vec ℕ). bytes_eq a.items b.items) ks v) ≡ with_name (texts_of ks) v.items
inserted ks v = inserted_by ks v (list_any (λ (w : Vec ℕ). bytes_eq v.items w.items) ks) ∙ ap (λ b. cond b (texts_of ks) (texts_of ks ++ v.items ∷ [])) (any-texts ks v.items)

pub numbered : (ks : List (Vec ℕ)) (v : Vec ℕ) → insert_index_of ks v ≡ number_of (texts_of ks) v.items
numbered ks v = prefix-texts ks v.items

-- the answers of `Names`

pub found_in : (ks : List (Vec ℕ)) (names : List (List ℕ)) (text : List ℕ) (i : ℕ) → texts_of ks ≡ names → Some i ≡ position (λ (v : Vec ℕ). bytes_eq text v.items) ks → IsHeldAt names text i
found_in ks names text i e f = found names text i (ap (position (bytes_eq text)) (sym e) ∙ sym (position-texts ks text) ∙ sym f)

pub absent_in : (ks : List (Vec ℕ)) (names : List (List ℕ)) (text : List ℕ) → texts_of ks ≡ names → None ≡ position (λ (v : Vec ℕ). bytes_eq text v.items) ks → holds names text ≡ false
absent_in ks names text e f = absent names text (ap (position (bytes_eq text)) (sym e) ∙ sym (position-texts ks text) ∙ sym f)

pub record IsAdded (names : List (List ℕ)) (text : List ℕ) (new : List (List ℕ)) (i : ℕ) : Type 0 where
  pub number : i ≡ number_of names text
  pub held : slice_get new i ≡ Some text
  pub grown : new ≡ with_name names text
  pub pushed : new ≡ names ++ text ∷ []

pub added_in : (ks news : List (Vec ℕ)) (v : Vec ℕ) (names : List (List ℕ)) (text : List ℕ) (i : ℕ) → texts_of ks ≡ names → v.items ≡ text → holds names text ≡ false
    → news ≡ insert_key (λ (a b : Vec ℕ). bytes_eq a.items b.items) ks v → i ≡ insert_index_of ks v → IsAdded names text (texts_of news) i
added_in ks news v names text i e f h n m =
    let is : texts_of news ≡ with_name names text = ap texts_of n ∙ inserted ks v ∙ ap (λ (l : List (List ℕ)). with_name l v.items) e ∙ ap (with_name names) f in
    let number : i ≡ number_of names text = m ∙ numbered ks v ∙ ap (λ (l : List (List ℕ)). number_of l v.items) e ∙ ap (number_of names) f in
    let last : i ≡ length names = number ∙ absent_place names text h in
    let pushed : texts_of news ≡ names ++ text ∷ [] = is ∙ with_new names text h in
    record { number = number; held = rw (pushed, last) (last_is names text); grown = is; pushed = pushed }

-- the text with a held text's number is that text
pub held_text : (names : List (List ℕ)) (text : List ℕ) → holds names text ≡ true → slice_get names (number_of names text) ≡ Some text
held_text names text e = (found names text (number_of names text) (position_held names text e)).held
