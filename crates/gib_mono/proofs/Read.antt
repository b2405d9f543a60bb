-- Reading runs of words.
use Rattle.std.proofs.Common.{◌≡◌, ℕ, zero, suc, ◌+◌, ◌<◌, ◌≤◌, false, List, [], ◌∷◌, ◌++◌, length, map, take, drop, get_or, ◌-◌, refl, sym, ap, ap₂, ◌∙◌, arith, subst, append_assoc}
use Rattle.gib_base.specs.declared.Span.{Span}
use Rattle.gib_types.specs.declared.types.TypeId.{TypeId}
use Rattle.gib_types.specs.declared.types.TypeNode.{TypeNode}
use Rattle.gib_types.specs.Form.{Form, Forms, WholeForm, DataForm, NoForm, MoreForms, Meant}
use Rattle.gib_types.specs.Types.{form_at, forms_at, forms_of, AreBelow, GrowsTo}
use Rattle.gib_types.proofs.Once.{forms_more}
use Rattle.gib_syntax.specs.declared.tree.Ident.{Ident}
use Rattle.gib_syntax.specs.declared.written.Word.{Word}
use Rattle.gib_syntax.specs.declared.written.Word.TheVariants as w
use Rattle.gib_syntax.specs.Declarations.{number_of}
use Rattle.gib_syntax.specs.Forms.{WrittenType, formed, written_place}
use Rattle.gib_syntax.specs.Words.{taken, left, read_word, stack_of}
use Rattle.gib_mono.specs.declared.reading.Use.{Use}
use Rattle.gib_mono.specs.declared.reading.Reading.{Reading}
use Rattle.gib_mono.specs.Walk.{Ask, written_asks, writtens_asks, types_asks}
use Rattle.gib_check.specs.Judging.{Meets}
use Rattle.gib_mono.specs.Reading.{Read, nothing_read, taken_forms, put_form, read_data, read_one, read_words, use_ask, listed, read_of, AreUsesBelow, IsReadBelow, ReadsOn, HasRead}
use Rattle.gib_check.proofs.Growing.{many, below_more}
use Rattle.gib_check.proofs.Read.{left_formed, left_listed, taken_formed, taken_listed, below_taken, below_left, place_left}

-- Definitions: reading words is what they mean

pub ap₃ : {A B C D : Type 0} (f : A → B → C → D) {x y : A} {u v : B} {s t : C} → x ≡ y → u ≡ v → s ≡ t → f x u s ≡ f y v t
ap₃ f {x} {y} {u} {v} {s} {t} e g h = ap (λ a. f a u s) e ∙ ap (λ b. f y b s) g ∙ ap (f y v) h

pub asks_left : (m : Meant) (n : ℕ) (st : List WrittenType) → writtens_asks m (taken n st) ++ types_asks m (left n st) ≡ types_asks m st
asks_left m zero st = refl
asks_left m (suc n) [] = refl
asks_left m (suc n) (x ∷ st) = append_assoc (written_asks m x) (writtens_asks m (taken n st)) (types_asks m (left n st)) ∙ ap (λ l. written_asks m x ++ l) (asks_left m n st)

abbrev meant_read : Meant → List WrittenType → Read
meant_read m st = record { types = map (formed m) st; places = map written_place st; asks = types_asks m st }

one_is : (m : Meant) (x : Word) (st : List WrittenType) → read_one m x (meant_read m st) ≡ meant_read m (read_word x st)
one_is m (w.Whole p) st = refl
one_is m (w.Truth p) st = refl
one_is m (w.Variable x) st = refl
one_is m (w.Data p x n) st =
    ap₃ (λ (fs : List Form) (ps : List Span) (as' : List Ask). record { types = fs; places = ps; asks = as' })
    (ap₂ (λ (a : Forms) (b : List Form). DataForm (number_of x) a ∷ b) (taken_formed m n st) (left_formed m n st))
    (ap (λ ps. p ∷ ps) (place_left n st))
    (ap₂ (λ (a : Forms) (b : List Ask). record { function = false; name = number_of x; types = a; span = x.span } ∷ b) (taken_formed m n st) (sym (asks_left m n st)))

pub words_are : (m : Meant) (ws : List Word) → read_words m ws nothing_read ≡ meant_read m (stack_of ws)
words_are m [] = refl
words_are m (x ∷ ws) = ap (read_one m x) (words_are m ws) ∙ one_is m x (stack_of ws)

pub words_last : (m : Meant) (ws : List Word) (x : Word) (r : Read) → read_words m (ws ++ x ∷ []) r ≡ read_words m ws (read_one m x r)
words_last m [] x r = refl
words_last m (y ∷ ws) x r = ap (read_one m y) (words_last m ws x r)

-- Numbers

uses_more : (b c : ℕ) (us : List Use) → b ≤ c → AreUsesBelow b us → AreUsesBelow c us
uses_more b c [] l h = tt
uses_more b c (u ∷ us) l h = (below_more b c u.types.items l h.0, uses_more b c us l h.1)

pub forms_grow : (old new : List TypeNode) (is : List TypeId) → GrowsTo (forms_of old) (forms_of new) → AreBelow (length old) is → forms_at (forms_of new) is ≡ forms_at (forms_of old) is
forms_grow old new is g h =
    ap (λ fs. forms_at fs is) g.is ∙ forms_more (forms_of old) g.more (length old) is h (let e = many old in omega (arith, e))

first_of : Forms → Form
first_of NoForm = WholeForm
first_of (MoreForms f fs) = f

pub form_grows : (old new : List TypeNode) (i : TypeId) → GrowsTo (forms_of old) (forms_of new) → i.0 < length old → form_at (forms_of new) i.0 ≡ form_at (forms_of old) i.0
unfolding first_of
form_grows old new i g l = ap first_of (forms_grow old new (i ∷ []) g (l, tt))

pub listed_grow : (old new : List TypeNode) (is : List TypeId) → GrowsTo (forms_of old) (forms_of new) → AreBelow (length old) is → listed (forms_of new) is ≡ listed (forms_of old) is
listed_grow old new [] g h = refl
listed_grow old new (i ∷ is) g h = ap₂ (λ (f : Form) (fs : List Form). f ∷ fs) (form_grows old new i g h.0) (listed_grow old new is g h.1)

uses_grow : (old new : List TypeNode) (us : List Use) → GrowsTo (forms_of old) (forms_of new) → AreUsesBelow (length old) us → map (use_ask (forms_of new)) us ≡ map (use_ask (forms_of old)) us
uses_grow old new [] g h = refl
uses_grow old new (u ∷ us) g h =
    ap₂ (λ (a : Ask) (as' : List Ask). a ∷ as') (ap (λ ts. record { function = false; name = u.name.0; types = ts; span = u.span }) (forms_grow old new u.types.items g h.0)) (uses_grow old new us g h.1)

pub grows_on : (old mid new : List TypeNode) → GrowsTo (forms_of old) (forms_of mid) → GrowsTo (forms_of mid) (forms_of new) → GrowsTo (forms_of old) (forms_of new)
grows_on old mid new g h = record { more = g.more ++ h.more; is = h.is ∙ ap (λ l. l ++ h.more) g.is ∙ assoc (forms_of old) g.more h.more } where
  assoc : (xs ys zs : List Form) → (xs ++ ys) ++ zs ≡ xs ++ (ys ++ zs)
  assoc [] ys zs = refl
  assoc (x ∷ xs) ys zs = ap (λ l. x ∷ l) (assoc xs ys zs)

pub grows_none : (fs : List Form) → GrowsTo fs fs
grows_none fs = record { more = []; is = sym (nil fs) } where
  nil : (xs : List Form) → xs ++ [] ≡ xs
  nil [] = refl
  nil (x ∷ xs) = ap (λ l. x ∷ l) (nil xs)

-- Steps

pub reading_more : (old new : List TypeNode) (r : Reading) → length old ≤ length new → IsReadBelow (length old) r → IsReadBelow (length new) r
reading_more old new r l h = (below_more (length old) (length new) r.types l h.0, uses_more (length old) (length new) r.uses l h.1)

pub reading_grows : (old new : List TypeNode) (r : Reading) → GrowsTo (forms_of old) (forms_of new) → IsReadBelow (length old) r → read_of (forms_of new) r ≡ read_of (forms_of old) r
reading_grows old new r g h = ap₂ (λ (fs : List Form) (as' : List Ask). record { types = fs; places = r.places; asks = as' }) (listed_grow old new r.types g h.0) (uses_grow old new r.uses g h.1)

pub plain_read : (old new : List TypeNode) (before : Reading) (ids : List TypeId) (places : List Span) (id : TypeId) (f : Form) (p : Span) → IsReadBelow (length old) before → Meets old new id f → ids ≡ id ∷ before.types → places ≡ p ∷ before.places
    → ReadsOn old new before (record { types = ids; places = places; uses = before.uses }) (put_form f p)
plain_read old new before ids places id f p h made e e' = rw (e, e') (record {
  grows = made.grows.grows;
  longer = made.grows.longer;
  below = ((made.below, (reading_more old new before made.grows.longer h).0), (reading_more old new before made.grows.longer h).1);
  read = ap₂ (λ (g : Form) (r : Read). put_form g p r) made.form (reading_grows old new before made.grows.grows h);
})

pub data_read : (old new : List TypeNode) (before : Reading) (middle ids : List TypeId) (left_places places : List Span) (uses : List Use) (p : Span) (x : Ident) (n : ℕ) (arguments : List TypeId) (u : Use) (id : TypeId) →
    IsReadBelow (length old) before → arguments ≡ take n before.types → middle ≡ drop n before.types → Meets old new id (DataForm (number_of x) (forms_at (forms_of old) arguments)) → ids ≡ id ∷ middle →
    left_places ≡ drop n before.places → places ≡ p ∷ left_places → uses ≡ u ∷ before.uses → u.name ≡ x.name → u.types.items ≡ arguments → u.span ≡ x.span → ReadsOn old new before (record { types = ids; places = places; uses = uses }) (read_data p x n)
data_read old new before middle ids left_places places uses p x n arguments u id h is_taken is_left made e skipped placed f name ts span =
    let less = reading_more old new before made.grows.longer h in
    let taken_is : forms_at (forms_of old) arguments ≡ taken_forms n (listed (forms_of old) before.types) = ap (forms_at (forms_of old)) is_taken ∙ sym (taken_listed (forms_of old) n before.types) in
    let args_below : AreBelow (length old) arguments = subst (AreBelow (length old)) (sym is_taken) (below_taken (length old) n before.types h.0) in
    rw (e, f) (record {
      grows = made.grows.grows;
      longer = made.grows.longer;
      below = ((made.below, subst (AreBelow (length new)) (sym is_left) (below_left (length new) n before.types less.0)), (subst (AreBelow (length new)) (sym ts) (below_more (length old) (length new) arguments made.grows.longer args_below), less.1));
      read = ap₃ (λ (fs : List Form) (ps : List Span) (as' : List Ask). record { types = fs; places = ps; asks = as' })
          (ap₂ (λ (g : Form) (gs : List Form). g ∷ gs) (made.form ∙ ap (DataForm (number_of x)) taken_is)
          (ap (listed (forms_of new)) is_left ∙ sym (left_listed (forms_of new) n before.types) ∙ ap (drop n) (listed_grow old new before.types made.grows.grows h.0)))
          (placed ∙ ap (λ ps. p ∷ ps) skipped)
          (ap₂ (λ (a : Ask) (as' : List Ask). a ∷ as')
          (ap₂ (λ (z : ℕ) (q : Forms). record { function = false; name = z; types = q; span = u.span }) (ap (λ (k : Rattle.gib_base.specs.declared.name.Name.Name). k.0) name) (ap (forms_at (forms_of new)) ts ∙ forms_grow old new arguments made.grows.grows args_below ∙ taken_is)
          ∙ ap (λ s. record { function = false; name = number_of x; types = taken_forms n (listed (forms_of old) before.types); span = s }) span)
          (uses_grow old new before.uses made.grows.grows h.1));
    })

-- The loop

pub record ReadSoFar (old now : List TypeNode) (m : Meant) (words rest : List Word) (r : Reading) : Type 0 where
  pub grows : GrowsTo (forms_of old) (forms_of now)
  pub longer : length old ≤ length now
  pub below : IsReadBelow (length now) r
  pub read : read_words m rest (read_of (forms_of now) r) ≡ read_words m words nothing_read

pub so_far_starts : (old : List TypeNode) (m : Meant) (words : List Word) (r : Reading) → r ≡ record { types = []; places = []; uses = [] } → ReadSoFar old old m words words r
so_far_starts old m words r e = rw e (record { grows = grows_none (forms_of old); longer = omega arith; below = (tt, tt); read = refl })

pub so_far_next : (old now new : List TypeNode) (m m' : Meant) (words rest before : List Word) (x : Word) (r s : Reading) → ReadSoFar old now m words rest r → m' ≡ m → rest ≡ before ++ x ∷ [] → ReadsOn now new r s (read_one m' x) → ReadSoFar old new m words before s
so_far_next old now new m m' words rest before x r s h e f step = record {
  grows = grows_on old now new h.grows step.grows;
  longer = (let k = h.longer in let l = step.longer in omega (arith, k, l));
  below = step.below;
  read = ap (read_words m before) (step.read ∙ ap (λ n. read_one n x (read_of (forms_of now) r)) e) ∙ sym (words_last m before x (read_of (forms_of now) r)) ∙ ap (λ ws. read_words m ws (read_of (forms_of now) r)) (sym f) ∙ h.read;
}

pub so_far_ends : (old now : List TypeNode) (m : Meant) (words rest : List Word) (r : Reading) → ReadSoFar old now m words rest r → rest ≡ [] → HasRead old now m words r
so_far_ends old now m words rest r h e =
    let all = ap (λ ws. read_words m ws (read_of (forms_of now) r)) (sym e) ∙ h.read ∙ words_are m words in
    record { grows = h.grows; longer = h.longer; below = h.below; types = ap (λ (q : Read). q.types) all; places = ap (λ (q : Read). q.places) all; uses = ap (λ (q : Read). q.asks) all }

pub take_last : {A : Type 0} (xs : List A) (n m : ℕ) (d : A) → m ≡ n - 1 → 0 < n → n ≤ length xs → take n xs ≡ take m xs ++ get_or xs m d ∷ []
take_last xs zero m d e p l = absurd (omega (arith, p))
take_last [] (suc n) m d e p l = absurd (omega (arith, l))
take_last (y ∷ xs) (suc zero) zero d e p l = refl
take_last (y ∷ xs) (suc zero) (suc m) d e p l = absurd (omega (arith, e))
take_last (y ∷ xs) (suc (suc n)) zero d e p l = absurd (omega (arith, e))
take_last (y ∷ xs) (suc (suc n)) (suc m) d e p l = ap (λ z. y ∷ z) (take_last xs (suc n) m d (omega (arith, e)) (omega arith) (omega (arith, l)))
