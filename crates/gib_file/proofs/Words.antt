-- Names, and how bytes that begin with one are cut.
use Rattle.std.proofs.Common.{◌≡◌, ℕ, zero, suc, ◌<◌, ◌^◌, Bool, true, false, ◌||◌, List, [], ◌∷◌, ◌++◌, refl, ap, sym, subst, ◌∙◌, inl, inr, if◌then◌else◌}
use Rattle.std.specs.Prelude.{◌==◌, ◌&&◌}
use Rattle.std.specs.List.{list_all}
use Rattle.std.specs.Str.{all_ascii_digits}
use Rattle.std.specs.Str.Parse.{digits_value}
use Rattle.std.specs.Char.{is_ascii_digit, is_ascii_alphabetic}
use Rattle.std.specs.Fmt.{decimal}
use Rattle.std.proofs.lemmas.Fmt.{digits_decimal}
use Rattle.std.proofs.lemmas.Str.Parse.{IsNumeralModel, numerals_by_value, tells_all_ascii_digits}
use Rattle.std.proofs.lemmas.Bool.{eqb-true}
use Rattle.gib_base.specs.Piece.{is_name_byte}
use Rattle.gib_value.specs.Reading.{IsWord}
use Rattle.gib_file.specs.Named.{IsName, GoesOn, open_behind}

-- letters, digits and `_` alone
abbrev pub AreNameBytes : List ℕ → Type 0
AreNameBytes [] = Unit {0}
AreNameBytes (b ∷ bs) = (is_name_byte b ≡ true) × AreNameBytes bs

-- no word goes on here
abbrev pub Ends : List ℕ → Type 0
Ends [] = Unit {0}
Ends (b ∷ bs) = is_name_byte b ≡ false

-- no name goes on here
abbrev pub Stops : List ℕ → Type 0
Stops [] = Unit {0}
Stops (b ∷ bs) = (is_name_byte b || b == 91) ≡ false

abbrev pub first_of : ℕ → List ℕ → ℕ
first_of d [] = d
first_of d (x ∷ xs) = x

abbrev pub rest_of : List ℕ → List ℕ
rest_of [] = []
rest_of (x ∷ xs) = xs

pub both_ways : (b : Bool) → b ≡ true → b ≡ false → ⊥
both_ways true h k = cc
both_ways false h k = cc

or_first : (x y : Bool) → x ≡ true → (x || y) ≡ false → ⊥
or_first true y h k = cc
or_first false y h k = cc

-- a name does not go on where it stops
goes_or_stops : (b : ℕ) (x s r : List ℕ) → GoesOn 0 (b ∷ x) → Stops r → r ≡ b ∷ (x ++ s) → ⊥
goes_or_stops b x s r (inl h) p e = let stop : Stops (b ∷ (x ++ s)) = subst Stops e p in or_first (is_name_byte b) (b == 91) h.0 stop
goes_or_stops b x s r (inr h) p e = let stop : Stops (91 ∷ (x ++ s)) = subst Stops (e ∙ ap (λ (c : ℕ). c ∷ (x ++ s)) h.0) p in both_ways true refl stop

-- a bracket is in no word
bracket_apart : (a b : ℕ) → is_name_byte a ≡ true → b ≡ 91 → a ≡ b → ⊥
bracket_apart a b h k e = let no : is_name_byte 91 ≡ true = subst (λ (c : ℕ). is_name_byte c ≡ true) (e ∙ k) h in both_ways (is_name_byte 91) no refl

one_more_byte : (a b : ℕ) (x y r s : List ℕ) → a ≡ b → (x ≡ y) × (r ≡ s) → (a ∷ x ≡ b ∷ y) × (r ≡ s)
one_more_byte a b x y r s e rest = (ap (λ (z : ℕ). z ∷ x) e ∙ ap (λ (l : List ℕ). b ∷ l) rest.0, rest.1)

-- a name ends where the bytes stop and no bracket is open, so it is cut off in one way
one_end : (n : ℕ) (x y r s : List ℕ) → GoesOn n x → GoesOn n y → Stops r → Stops s → x ++ r ≡ y ++ s → (x ≡ y) × (r ≡ s)
one_end zero [] [] r s f g p q e = (refl, e)
one_end zero [] (b ∷ y) r s f g p q e = absurd (goes_or_stops b y s r g p e)
one_end zero (a ∷ x) [] r s f g p q e = absurd (goes_or_stops a x r s f q (sym e))
one_end zero (a ∷ x) (b ∷ y) r s (inl f) (inl g) p q e = one_more_byte a b x y r s (ap (first_of 0) e) (one_end zero x y r s f.1 g.1 p q (ap rest_of e))
one_end zero (a ∷ x) (b ∷ y) r s (inl f) (inr g) p q e = absurd (bracket_apart a b f.0 g.0 (ap (first_of 0) e))
one_end zero (a ∷ x) (b ∷ y) r s (inr f) (inl g) p q e = absurd (bracket_apart b a g.0 f.0 (sym (ap (first_of 0) e)))
one_end zero (a ∷ x) (b ∷ y) r s (inr f) (inr g) p q e = one_more_byte a b x y r s (ap (first_of 0) e) (one_end 1 x y r s f.1 g.1 p q (ap rest_of e))
one_end (suc n) [] y r s f g p q e = absurd f
one_end (suc n) (a ∷ x) [] r s f g p q e = absurd g
one_end (suc n) (a ∷ x) (b ∷ y) r s f g p q e =
    let same = ap (first_of 0) e in
    one_more_byte a b x y r s same (one_end (open_behind n a) x y r s f (subst (λ (c : ℕ). GoesOn (open_behind n c) y) (sym same) g) p q (ap rest_of e))

pub one_name : (x y r s : List ℕ) → GoesOn 0 x → GoesOn 0 y → Stops r → Stops s → x ++ r ≡ y ++ s → (x ≡ y) × (r ≡ s)
one_name = one_end 0

pub name_bytes : (w : List ℕ) → IsName w → GoesOn 0 w
name_bytes [] h = absurd h
name_bytes (b ∷ bs) h = inl h

-- a name does not begin with a byte that is in no word
pub not_name : (b : ℕ) (r w s : List ℕ) → IsName w → is_name_byte b ≡ false → b ∷ r ≡ w ++ s → ⊥
not_name b r [] s h out e = absurd h
not_name b r (c ∷ w) s h out e = both_ways (is_name_byte c) h.0 (subst (λ (x : ℕ). is_name_byte x ≡ false) (ap (first_of 0) e) out)

or_left : (a b c : Bool) → a ≡ true → (a || b || c) ≡ true
or_left true b c h = refl
or_left false b c h = absurd cc

and_both : (a b : Bool) → (a && b) ≡ true → (a ≡ true) × (b ≡ true)
and_both true b h = (refl, h)
and_both false b h = absurd cc

all_bytes : (bs : List ℕ) → list_all is_name_byte bs ≡ true → AreNameBytes bs
all_bytes [] h = tt
all_bytes (b ∷ bs) h = let both = and_both (is_name_byte b) (list_all is_name_byte bs) h in (both.0, all_bytes bs both.1)

pub word_bytes : (w : List ℕ) → IsWord w → AreNameBytes w
word_bytes [] h = absurd h
word_bytes (b ∷ bs) h = (or_left (is_ascii_alphabetic b) (is_ascii_digit b) (b == 95) h.0, all_bytes bs h.1)

bytes_end : (w : List ℕ) → AreNameBytes w → GoesOn 0 w
bytes_end [] h = tt
bytes_end (b ∷ w) h = inl (h.0, bytes_end w h.1)

-- a word is a name
pub word_is_name : (w : List ℕ) → IsWord w → IsName w
word_is_name [] h = absurd h
word_is_name (b ∷ bs) h = let bytes = word_bytes (b ∷ bs) h in (bytes.0, bytes_end bs bytes.1)

-- ---- words in names

-- a word in front of what goes on goes on, outside of brackets and inside
pub goes_out : (w r : List ℕ) → AreNameBytes w → GoesOn 0 r → GoesOn 0 (w ++ r)
goes_out [] r h k = k
goes_out (b ∷ w) r h k = inl (h.0, goes_out w r h.1 k)

no_bracket : (b c : ℕ) → is_name_byte b ≡ true → is_name_byte c ≡ false → (b == c) ≡ false
no_bracket b c h out = go (b == c) refl
  where
    go : (t : Bool) → (b == c) ≡ t → (b == c) ≡ false
    go true e = absurd (both_ways (is_name_byte b) h (subst (λ (x : ℕ). is_name_byte x ≡ false) (sym (eqb-true b c e)) out))
    go false e = e

stays_open : (n b : ℕ) → is_name_byte b ≡ true → open_behind n b ≡ suc n
stays_open n b h =
    ap (λ (t : Bool). if t then suc (suc n) else (if b == 93 then n else suc n)) (no_bracket b 91 h refl) ∙ ap (λ (t : Bool). if t then n else suc n) (no_bracket b 93 h refl)

pub goes_in : (n : ℕ) (w r : List ℕ) → AreNameBytes w → GoesOn (suc n) r → GoesOn (suc n) (w ++ r)
goes_in n [] r h k = k
goes_in n (b ∷ w) r h k = subst (λ (m : ℕ). GoesOn m (w ++ r)) (sym (stays_open n b h.0)) (goes_in n w r h.1 k)

-- a word is cut off in one way
pub one_word : (x y r s : List ℕ) → AreNameBytes x → AreNameBytes y → Ends r → Ends s → x ++ r ≡ y ++ s → (x ≡ y) × (r ≡ s)
one_word [] [] r s f g p q e = (refl, e)
one_word [] (b ∷ y) r s f g p q e = let stop : Ends (b ∷ (y ++ s)) = subst Ends e p in absurd (both_ways (is_name_byte b) g.0 stop)
one_word (a ∷ x) [] r s f g p q e = let stop : Ends (a ∷ (x ++ r)) = subst Ends (sym e) q in absurd (both_ways (is_name_byte a) f.0 stop)
one_word (a ∷ x) (b ∷ y) r s f g p q e = one_more_byte a b x y r s (ap (first_of 0) e) (one_word x y r s f.1 g.1 p q (ap rest_of e))

-- ---- numbers

own : IsNumeralModel (λ ds. all_ascii_digits ds ≡ true) (digits_value 10)
own = numerals_by_value _ tells_all_ascii_digits

or_middle : (a b c : Bool) → b ≡ true → (a || b || c) ≡ true
or_middle true b c h = refl
or_middle false true c h = refl
or_middle false false c h = absurd cc

digit_bytes : (ds : List ℕ) → all_ascii_digits ds ≡ true → AreNameBytes ds
digit_bytes [] h = tt
digit_bytes (d ∷ ds) h =
    let both = and_both (is_ascii_digit d) (all_ascii_digits ds) h in
    (or_middle (is_ascii_alphabetic d) (is_ascii_digit d) (d == 95) both.0, digit_bytes ds both.1)

pub decimal_bytes : (n : ℕ) → n < 2 ^ 64 → GoesOn 0 (decimal n)
decimal_bytes n lt = bytes_end (decimal n) (digit_bytes (decimal n) (digits_decimal own n lt))
