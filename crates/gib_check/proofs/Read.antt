-- Reading runs of words.
use Rattle.std.proofs.Common.{◌≡◌, ℕ, zero, suc, ◌<◌, ◌≤◌, List, [], ◌∷◌, ◌++◌, length, map, take, drop, get_or, ◌-◌, refl, sym, ap, ap₂, ◌∙◌, arith, subst}
use Rattle.gib_base.specs.declared.Span.{Span}
use Rattle.gib_types.specs.declared.types.TypeId.{TypeId}
use Rattle.gib_types.specs.declared.types.TypeNode.{TypeNode}
use Rattle.gib_types.specs.Form.{Form, Forms, DataForm, NoForm, MoreForms, Meant}
use Rattle.gib_types.specs.Types.{form_at, forms_at, forms_of, AreBelow}
use Rattle.gib_syntax.specs.declared.tree.Ident.{Ident}
use Rattle.gib_syntax.specs.declared.written.Word.{Word}
use Rattle.gib_syntax.specs.declared.written.Word.TheVariants as w
use Rattle.gib_syntax.specs.Declarations.{number_of}
use Rattle.gib_syntax.specs.Forms.{WrittenType, formed, formed_all, written_place, count_written}
use Rattle.gib_syntax.specs.Words.{taken, left, read_word, stack_of, all_types, first_type}
use Rattle.gib_check.specs.Judging.{Grows, Meets, Reads, listed}
use Rattle.gib_check.specs.ReadingSteps.{taken_forms, put_form, data_form, read_one, read_words, ReadsOn}
use Rattle.gib_check.proofs.Growing.{grows_none, grows_on, listed_grow, below_more}

-- reading words is what they mean

pub taken_formed : (m : Meant) (n : ℕ) (st : List WrittenType) → taken_forms n (map (formed m) st) ≡ formed_all m (taken n st)
taken_formed m zero st = refl
taken_formed m (suc n) [] = refl
taken_formed m (suc n) (x ∷ st) = ap (MoreForms (formed m x)) (taken_formed m n st)

pub left_formed : (m : Meant) (n : ℕ) (st : List WrittenType) → drop n (map (formed m) st) ≡ map (formed m) (left n st)
left_formed m zero st = refl
left_formed m (suc n) [] = refl
left_formed m (suc n) (x ∷ st) = left_formed m n st

one_is : (m : Meant) (x : Word) (st : List WrittenType) → read_one m x (map (formed m) st) ≡ map (formed m) (read_word x st)
one_is m (w.Whole p) st = refl
one_is m (w.Truth p) st = refl
one_is m (w.Variable x) st = refl
one_is m (w.Data p x n) st = ap₂ (λ (a : Forms) (b : List Form). DataForm (number_of x) a ∷ b) (taken_formed m n st) (left_formed m n st)

words_are : (m : Meant) (ws : List Word) → read_words m ws [] ≡ map (formed m) (stack_of ws)
words_are m [] = refl
words_are m (x ∷ ws) = ap (read_one m x) (words_are m ws) ∙ one_is m x (stack_of ws)

alone : (m : Meant) (p : Span) (x : Ident) (n : ℕ) → DataForm (number_of x) NoForm ≡ formed m (first_type (read_word (w.Data p x n) []))
alone m p x zero = refl
alone m p x (suc n) = refl

-- The name of a declared type alone.
pub alone_read : (m : Meant) (word : Word) (p : Span) (x : Ident) (n : ℕ) (fs : List Form) (ids : List TypeId) → word ≡ w.Data p x n → ids ≡ [] → DataForm (number_of x) (forms_at fs ids) ≡ formed m (first_type (read_word word []))
alone_read m word p x n fs ids e i =
    ap (λ is. DataForm (number_of x) (forms_at fs is)) i ∙ alone m p x n ∙ ap (λ z. formed m (first_type (read_word z []))) (sym e)

words_last : (m : Meant) (ws : List Word) (x : Word) (fs : List Form) → read_words m (ws ++ x ∷ []) fs ≡ read_words m ws (read_one m x fs)
words_last m [] x fs = refl
words_last m (y ∷ ws) x fs = ap (read_one m y) (words_last m ws x fs)

-- numbers

pub taken_listed : (fs : List Form) (n : ℕ) (is : List TypeId) → taken_forms n (listed fs is) ≡ forms_at fs (take n is)
taken_listed fs zero is = refl
taken_listed fs (suc n) [] = refl
taken_listed fs (suc n) (i ∷ is) = ap (MoreForms (form_at fs i.0)) (taken_listed fs n is)

pub left_listed : (fs : List Form) (n : ℕ) (is : List TypeId) → drop n (listed fs is) ≡ listed fs (drop n is)
left_listed fs zero is = refl
left_listed fs (suc n) [] = refl
left_listed fs (suc n) (i ∷ is) = left_listed fs n is

pub below_taken : (b n : ℕ) (is : List TypeId) → AreBelow b is → AreBelow b (take n is)
below_taken b zero is h = tt
below_taken b (suc n) [] h = tt
below_taken b (suc n) (i ∷ is) h = (h.0, below_taken b n is h.1)

pub below_left : (b n : ℕ) (is : List TypeId) → AreBelow b is → AreBelow b (drop n is)
below_left b zero is h = h
below_left b (suc n) [] h = tt
below_left b (suc n) (i ∷ is) h = below_left b n is h.1

pub arguments_below : (b n : ℕ) (is arguments : List TypeId) → arguments ≡ take n is → AreBelow b is → AreBelow b arguments
arguments_below b n is arguments e h = subst (AreBelow b) (sym e) (below_taken b n is h)

-- steps

pub plain_read : (old new : List TypeNode) (before ids : List TypeId) (id : TypeId) (f : Form) → AreBelow (length old) before → Meets old new id f → ids ≡ id ∷ before → ReadsOn old new before ids (put_form f)
plain_read old new before ids id f h made e = rw e (record {
  grows = made.grows;
  below = (made.below, below_more (length old) (length new) before made.grows.longer h);
  read = ap₂ (λ (g : Form) (gs : List Form). g ∷ gs) made.form (listed_grow old new before made.grows h);
})

pub data_read : (old new : List TypeNode) (before middle ids : List TypeId) (x : Ident) (n : ℕ) (arguments : List TypeId) (id : TypeId) →
    AreBelow (length old) before → arguments ≡ take n before → middle ≡ drop n before → Meets old new id (DataForm (number_of x) (forms_at (forms_of old) arguments)) → ids ≡ id ∷ middle → ReadsOn old new before ids (data_form x n)
data_read old new before middle ids x n arguments id h is_taken is_left made e =
    let less = below_more (length old) (length new) before made.grows.longer h in
    let taken_is : forms_at (forms_of old) arguments ≡ taken_forms n (listed (forms_of old) before) = ap (forms_at (forms_of old)) is_taken ∙ sym (taken_listed (forms_of old) n before) in
    rw e (record {
      grows = made.grows;
      below = (made.below, subst (AreBelow (length new)) (sym is_left) (below_left (length new) n before less));
      read = ap₂ (λ (g : Form) (gs : List Form). g ∷ gs) (made.form ∙ ap (DataForm (number_of x)) taken_is)
          (ap (listed (forms_of new)) is_left ∙ sym (left_listed (forms_of new) n before) ∙ ap (drop n) (listed_grow old new before made.grows h));
    })

-- the loop

pub record ReadSoFar (old now : List TypeNode) (m : Meant) (words rest : List Word) (ids : List TypeId) : Type 0 where
  pub grows : Grows old now
  pub below : AreBelow (length now) ids
  pub read : read_words m rest (listed (forms_of now) ids) ≡ read_words m words []

pub so_far_starts : (old : List TypeNode) (m : Meant) (words : List Word) (ids : List TypeId) → ids ≡ [] → ReadSoFar old old m words words ids
so_far_starts old m words ids e = rw e (record { grows = grows_none old; below = tt; read = refl })

pub so_far_next : (old now new : List TypeNode) (m m' : Meant) (words rest before : List Word) (x : Word) (is js : List TypeId) → ReadSoFar old now m words rest is → m' ≡ m → rest ≡ before ++ x ∷ [] → ReadsOn now new is js (read_one m' x) → ReadSoFar old new m words before js
so_far_next old now new m m' words rest before x is js h e f step = record {
  grows = grows_on old now new h.grows step.grows;
  below = step.below;
  read = ap (read_words m before) (step.read ∙ ap (λ n. read_one n x (listed (forms_of now) is)) e) ∙ sym (words_last m before x (listed (forms_of now) is)) ∙ ap (λ ws. read_words m ws (listed (forms_of now) is)) (sym f) ∙ h.read;
}

pub so_far_ends : (old now : List TypeNode) (m : Meant) (words rest : List Word) (ids : List TypeId) → ReadSoFar old now m words rest ids → rest ≡ [] → Reads old now m words ids
so_far_ends old now m words rest ids h e =
    record { grows = h.grows; below = h.below; types = ap (λ ws. read_words m ws (listed (forms_of now) ids)) (sym e) ∙ h.read ∙ words_are m words }

-- a meaning stays

-- of what was read
pub all_read : (fs : List Form) (m : Meant) (ids : List TypeId) (st : List WrittenType) → listed fs ids ≡ map (formed m) st → forms_at fs ids ≡ formed_all m (all_types st)
all_read fs m ids st e = listed_forms fs ids ∙ ap to_forms e ∙ formed_types m st where
  to_forms : List Form → Forms
  to_forms [] = NoForm
  to_forms (f ∷ gs) = MoreForms f (to_forms gs)

  listed_forms : (fs : List Form) (ids : List TypeId) → forms_at fs ids ≡ to_forms (listed fs ids)
  listed_forms fs [] = refl
  listed_forms fs (i ∷ is) = ap (MoreForms (form_at fs i.0)) (listed_forms fs is)

  formed_types : (m : Meant) (st : List WrittenType) → to_forms (map (formed m) st) ≡ formed_all m (all_types st)
  formed_types m [] = refl
  formed_types m (x ∷ st) = ap (MoreForms (formed m x)) (formed_types m st)

pub all_count : (st : List WrittenType) → count_written (all_types st) ≡ length st
all_count [] = refl
all_count (x ∷ st) = ap suc (all_count st)

pub read_count : (fs : List Form) (m : Meant) (ids : List TypeId) (st : List WrittenType) → listed fs ids ≡ map (formed m) st → length ids ≡ count_written (all_types st)
read_count fs m ids st e =
    sym (Rattle.std.proofs.lemmas.List.length-map ids (λ (i : TypeId). form_at fs i.0)) ∙ ap (λ (l : List Form). length l) e ∙ Rattle.std.proofs.lemmas.List.length-map st (formed m) ∙ sym (all_count st)

-- Places of types.
pub place_left : (n : ℕ) (st : List WrittenType) → drop n (map written_place st) ≡ map written_place (left n st)
place_left zero st = refl
place_left (suc n) [] = refl
place_left (suc n) (x ∷ st) = place_left n st

-- Some of the words were looked at, from the last one on.
abbrev pub places_onto : List Word → List WrittenType → List WrittenType
places_onto [] st = st
places_onto (x ∷ xs) st = read_word x (places_onto xs st)

pub record PlacesSoFar (words rest : List Word) (places : List Span) : Type 0 where
  pub types : List WrittenType
  pub are : places ≡ map written_place types
  pub whole : places_onto rest types ≡ stack_of words

onto_last : (ws : List Word) (x : Word) (st : List WrittenType) → places_onto (ws ++ x ∷ []) st ≡ places_onto ws (read_word x st)
onto_last [] x st = refl
onto_last (y ∷ ws) x st = ap (read_word y) (onto_last ws x st)

onto_none : (ws : List Word) → places_onto ws [] ≡ stack_of ws
onto_none [] = refl
onto_none (x ∷ ws) = ap (read_word x) (onto_none ws)

pub places_start : (words : List Word) (places : List Span) → places ≡ [] → PlacesSoFar words words places
places_start words places e = record { types = []; are = e; whole = onto_none words }

pub places_next : (words rest before : List Word) (x : Word) (places more : List Span) → PlacesSoFar words rest places → rest ≡ before ++ x ∷ [] → ((types : List WrittenType) → places ≡ map written_place types → more ≡ map written_place (read_word x types)) → PlacesSoFar words before more
places_next words rest before x places more h e step = record {
  types = read_word x h.types;
  are = step h.types h.are;
  whole = sym (onto_last before x h.types) ∙ ap (λ ws. places_onto ws h.types) (sym e) ∙ h.whole;
}

pub places_end : (words rest : List Word) (places : List Span) → PlacesSoFar words rest places → rest ≡ [] → places ≡ map written_place (stack_of words)
places_end words rest places h e = h.are ∙ ap (map written_place) (ap (λ ws. places_onto ws h.types) (sym e) ∙ h.whole)

pub take_last : {A : Type 0} (xs : List A) (n m : ℕ) (x : A) → m ≡ n - 1 → 0 < n → n ≤ length xs → x ≡ get_or xs m x → take n xs ≡ take m xs ++ x ∷ []
take_last xs zero m x e p l h = absurd (omega (arith, p))
take_last [] (suc n) m x e p l h = absurd (omega (arith, l))
take_last (y ∷ xs) (suc zero) zero x e p l h = ap (λ z. z ∷ []) (sym h)
take_last (y ∷ xs) (suc zero) (suc m) x e p l h = absurd (omega (arith, e))
take_last (y ∷ xs) (suc (suc n)) zero x e p l h = absurd (omega (arith, e))
take_last (y ∷ xs) (suc (suc n)) (suc m) x e p l h = ap (λ z. y ∷ z) (take_last xs (suc n) m x (omega (arith, e)) (omega arith) (omega (arith, l)) h)

-- The place of a declared type stands in for those of its arguments.
pub data_place : (word : Word) (p : Span) (x : Ident) (n : ℕ) (old mid new : List Span) → word ≡ w.Data p x n → mid ≡ drop n old → new ≡ p ∷ mid → (types : List WrittenType) → old ≡ map written_place types → new ≡ map written_place (read_word word types)
data_place word p x n old mid new e m q types h =
    q ∙ ap (λ l. p ∷ l) (m ∙ ap (drop n) h ∙ place_left n types) ∙ ap (λ z. map written_place (read_word z types)) (sym e)

get_default : {A : Type 0} (xs : List A) (m : ℕ) (d x : A) → m < length xs → get_or xs m d ≡ get_or xs m x
get_default [] m d x l = absurd (omega (arith, l))
get_default (y ∷ xs) zero d x l = refl
get_default (y ∷ xs) (suc m) d x l = get_default xs m d x (omega (arith, l))

pub take_at : {A : Type 0} (xs : List A) (n : ℕ) (d : A) → 0 < n → n ≤ length xs → take n xs ≡ take (n - 1) xs ++ get_or xs (n - 1) d ∷ []
take_at xs n d p l = take_last xs n (n - 1) (get_or xs (n - 1) d) refl p l (get_default xs (n - 1) d (get_or xs (n - 1) d) (omega (arith, p, l)))
