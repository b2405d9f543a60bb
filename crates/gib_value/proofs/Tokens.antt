-- The tokens of a value's text.
use Rattle.std.proofs.Common.{◌≡◌, ℕ, zero, suc, ◌+◌, ◌-◌, ◌<◌, ◌≤◌, ◌^◌, Bool, true, false, cond, ◌||◌, ◌&&◌, List, [], ◌∷◌, ◌++◌, length, take, drop, refl, sym, ap, subst, ◌∙◌, arith, append_assoc}
use Rattle.std.specs.Prelude.{ℤ, FitsSigned}
use Rattle.std.specs.Int.{w64}
use Rattle.std.specs.List.{prefix_len, list_all}
use Rattle.std.specs.Char.{is_ascii_digit, is_ascii_alphabetic}
use Rattle.std.specs.Str.{all_ascii_digits}
use Rattle.std.specs.Fmt.{decimal, signed_decimal}
use Rattle.std.proofs.lemmas.List.{drop_at, take-append-le}
use Rattle.std.proofs.Math.Seq.{take-length}
use Rattle.std.proofs.lemmas.Bool.Decides.{nat_tests}
use Rattle.std.proofs.lemmas.Str.Parse.{IsNumeralModel, numerals_by_value, tells_all_ascii_digits}
use Rattle.std.proofs.lemmas.Fmt.{digits_decimal, decimal_nonempty}
use Rattle.std.specs.Str.Parse.{digits_value}
use lib.IntN.{pos, negsuc}
use Rattle.gib_base.specs.Piece.{is_name_byte}
use Rattle.gib_value.specs.Text.{truth_text}
use Rattle.gib_value.specs.Reading.{IsWord, token_len}
use Rattle.gib_value.proofs.Numbers.{mag_small}

-- the bytes do not go on with one that passes
abbrev pub Stops : (ℕ → Bool) → List ℕ → Type 0
Stops p [] = Unit {0}
Stops p (b ∷ rest) = p b ≡ false

-- a name and a number end here
abbrev pub Ends : List ℕ → Type 0
Ends rest = Stops is_name_byte rest

and_both : (a b : Bool) → (a && b) ≡ true → (a ≡ true) × (b ≡ true)
and_both true true e = (refl, refl)
and_both true false e = absurd cc
and_both false b e = absurd cc

or_neither : (a b : Bool) → (a || b) ≡ false → (a ≡ false) × (b ≡ false)
or_neither true b e = absurd cc
or_neither false true e = absurd cc
or_neither false false e = (refl, refl)

run_len : (p : ℕ → Bool) (w rest : List ℕ) → list_all p w ≡ true → Stops p rest → prefix_len p (w ++ rest) ≡ length w
run_len p [] [] all stop = refl
run_len p [] (b ∷ rest) all stop = ap (λ (c : Bool). cond c (1 + prefix_len p rest) 0) stop
run_len p (x ∷ w) rest all stop =
    let both = and_both (p x) (list_all p w) all in
    ap (λ (c : Bool). cond c (1 + prefix_len p (w ++ rest)) 0) both.0 ∙ omega (arith, run_len p w rest both.1 stop)

digits_stop : (rest : List ℕ) → Ends rest → Stops is_ascii_digit rest
digits_stop [] h = tt
digits_stop (b ∷ rest) h = (or_neither (is_ascii_alphabetic b) (is_ascii_digit b) (or_neither (is_ascii_alphabetic b || is_ascii_digit b) (eq95 b) h).0).1
  where
    eq95 : ℕ → Bool
    eq95 n = Rattle.std.proofs.Common.nat_eq n 95

-- the token stands at the front, whatever follows that ends it
pub record IsToken (token : List ℕ) : Type 0 where
  pub some : 0 < length token
  pub first : (rest : List ℕ) → Ends rest → token_len (token ++ rest) ≡ length token

pub word_token : (token : List ℕ) → IsWord token → IsToken token
word_token [] h = absurd h
word_token (b ∷ w) h = record {
  some = omega arith;
  first = λ rest stop. ap (λ (c : Bool). cond c (1 + prefix_len is_name_byte (w ++ rest)) (other b (w ++ rest))) h.0 ∙ omega (arith, run_len is_name_byte w rest h.1 stop);
}
  where
    other : ℕ → List ℕ → ℕ
    other b rest = cond (is_ascii_digit b || Rattle.std.proofs.Common.nat_eq b 45) (1 + prefix_len is_ascii_digit rest) (cond (Rattle.std.proofs.Common.nat_eq b 40 || Rattle.std.proofs.Common.nat_eq b 41 || Rattle.std.proofs.Common.nat_eq b 32) 1 0)

digit_no_letter : (b : ℕ) → is_ascii_digit b ≡ true → is_ascii_alphabetic b ≡ false
digit_no_letter b h = grind (arith, nat_tests)

own_digits : IsNumeralModel (λ ds. all_ascii_digits ds ≡ true) (digits_value 10)
own_digits = numerals_by_value _ tells_all_ascii_digits

all_digits : (ds : List ℕ) → all_ascii_digits ds ≡ true → list_all is_ascii_digit ds ≡ true
all_digits [] h = refl
all_digits (d ∷ ds) h = let both = and_both (is_ascii_digit d) (all_ascii_digits ds) h in ap (λ (c : Bool). c && list_all is_ascii_digit ds) both.0 ∙ all_digits ds both.1

digits_token : (ds : List ℕ) → 0 < length ds → all_ascii_digits ds ≡ true → IsToken ds
digits_token [] lt h = absurd (omega arith)
digits_token (d ∷ ds) lt h =
    let both = and_both (is_ascii_digit d) (all_ascii_digits ds) h in
    record { some = omega arith; first = λ rest stop. rw (digit_no_letter d both.0, both.0) (omega (arith, run_len is_ascii_digit ds rest (all_digits ds both.1) (digits_stop rest stop))) }

minus_token : (ds : List ℕ) → all_ascii_digits ds ≡ true → IsToken (45 ∷ ds)
minus_token ds h = record { some = omega arith; first = λ rest stop. omega (arith, run_len is_ascii_digit ds rest (all_digits ds h) (digits_stop rest stop)) }

pub number_token : (z : ℤ) → FitsSigned w64 z → IsToken (signed_decimal z)
number_token (pos n) h =
    let lt : n < 2 ^ 64 = let m = mag_small (pos n) h in omega arith in
    digits_token (decimal n) (decimal_nonempty n lt) (digits_decimal own_digits n lt)
number_token (negsuc n) h =
    let lt : suc n < 2 ^ 64 = let m = mag_small (negsuc n) h in omega arith in
    minus_token (decimal (suc n)) (digits_decimal own_digits (suc n) lt)

pub truth_word : (b : Bool) → IsWord (truth_text b)
truth_word true = (refl, refl)
truth_word false = (refl, refl)

-- ---- tokens at the front of bytes

pub front_take : (token rest : List ℕ) → take (length token) (token ++ rest) ≡ token
front_take token rest = take-append-le (length token) token rest (omega arith) ∙ take-length token

pub same_front : (a b x y : List ℕ) → IsToken a → IsToken b → Ends x → Ends y → a ++ x ≡ b ++ y → (a ≡ b) × (x ≡ y)
same_front a b x y ta tb ex ey e =
    let n : length a ≡ length b = sym (ta.first x ex) ∙ ap token_len e ∙ tb.first y ey in (
      sym (front_take a x) ∙ ap (λ (l : List ℕ). take (length a) l) e ∙ ap (λ (i : ℕ). take i (b ++ y)) n ∙ front_take b y,
      sym (drop_at a x (length a) refl) ∙ ap (λ (l : List ℕ). drop (length a) l) e ∙ ap (λ (i : ℕ). drop i (b ++ y)) n ∙ drop_at b y (length b) refl,
    )
