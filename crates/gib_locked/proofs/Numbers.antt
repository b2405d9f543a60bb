-- Numbers and their texts.
use Rattle.std.proofs.Common.{◌≡◌, ℕ, zero, suc, ◌<◌, ◌^◌, List, [], ◌∷◌, length, Result, Ok, true, sym, ap, ◌∙◌, subst, arith}
use Rattle.std.specs.Prelude.{◌==◌}
use Rattle.std.proofs.lemmas.Bool.Decides.{nat_tests}
use lib.ListN.{get_or}
use Rattle.std.specs.Str.{IsUtf8, all_ascii_digits}
use Rattle.std.specs.Str.Parse.{ParsesUnsigned, digits_value}
use Rattle.std.specs.Result.{OkIff}
use Rattle.std.specs.Fmt.{decimal}
use Rattle.std.proofs.lemmas.Fmt.{decimal-digits_value, decimal_digit, decimal_nonempty, digits_decimal, first_decimal, IsAscii-decimal, parse-decimal}
use Rattle.std.proofs.lemmas.Str.{IsUtf8-from_ascii}
use Rattle.std.proofs.lemmas.Str.Parse.{IsNumeralModel, numerals_by_value, tells_all_ascii_digits, not_in_digits, parse_plain}

-- Texts of digits, and the numbers that they write.
pub own : IsNumeralModel (λ ds. all_ascii_digits ds ≡ true) (digits_value 10)
own = numerals_by_value _ tells_all_ascii_digits

pub not_empty : (n : ℕ) (bs : List ℕ) → true ≡ (length bs == 0) → n < 2 ^ 64 → bs ≡ decimal n → ⊥
not_empty n bs none small is = let e : length bs ≡ 0 = grind (arith, nat_tests) in omega (arith, e, decimal_nonempty n small, ap length is)

pub no_plus : (n : ℕ) (bs : List ℕ) → get_or bs 0 0 ≡ 43 → n < 2 ^ 64 → bs ≡ decimal n → ⊥
no_plus n bs plus small is = not_in_digits own (decimal n) 43 (digits_decimal own n small) (λ h. omega (arith, h.1)) 0 (decimal_nonempty n small) (ap (λ xs. get_or xs 0 0) (sym is) ∙ plus)

pub alone_is_zero : (bs : List ℕ) → get_or bs 0 0 ≡ 48 → length bs ≡ 1 → bs ≡ decimal 0
alone_is_zero [] led one = absurd (omega (arith, one))
alone_is_zero (b ∷ []) led one = ap (λ x. x ∷ []) led ∙ sym (decimal_digit 0 (omega arith))
alone_is_zero (b ∷ c ∷ bs) led one = absurd (omega (arith, one))

pub no_zeros : (n : ℕ) (bs : List ℕ) → get_or bs 0 0 ≡ 48 → (length bs ≡ 1 → ⊥) → n < 2 ^ 64 → bs ≡ decimal n → ⊥
no_zeros zero bs led more small is = more (ap length is ∙ ap length (decimal_digit 0 (omega arith)))
no_zeros (suc n) bs led more small is = omega (arith, led, first_decimal (suc n) (omega arith) small, ap (λ xs. get_or xs 0 0) is)

pub is_utf8 : (n : ℕ) (bs : List ℕ) → n < 2 ^ 64 → bs ≡ decimal n → IsUtf8 bs
is_utf8 n bs small is = subst IsUtf8 (sym is) (IsUtf8-from_ascii (decimal n) (IsAscii-decimal n small))

pub parses : {E : Type 0} (n : ℕ) (bs : List ℕ) (r : Result ℕ E) → n < 2 ^ 64 → bs ≡ decimal n → ParsesUnsigned 64 10 bs r → r ≡ Ok n
parses n bs r small is p = parse-decimal 64 n bs r small small is p

pub is_written : {E : Type 0} (n : ℕ) (bs : List ℕ) (r : Result ℕ E) → (get_or bs 0 0 ≡ 43 → ⊥) → (get_or bs 0 0 ≡ 48 → ⊥) → r ≡ Ok n → ParsesUnsigned 64 10 bs r → bs ≡ decimal n
is_written {E} n bs r unplus unzero is p =
    let h : OkIff {E = E} (Ok n) ((all_ascii_digits bs ≡ true) × (0 < length bs) × (digits_value 10 bs < 2 ^ 64)) (digits_value 10 bs) =
    subst (λ (x : Result ℕ E). OkIff {E = E} x ((all_ascii_digits bs ≡ true) × (0 < length bs) × (digits_value 10 bs < 2 ^ 64)) (digits_value 10 bs)) is (parse_plain own 64 bs r p unplus) in
    sym (decimal-digits_value own bs h.0.0 h.0.1 (λ led. absurd (unzero led)) h.0.2) ∙ ap decimal (sym h.1)
