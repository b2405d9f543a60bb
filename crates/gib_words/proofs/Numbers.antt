-- What a parse of a number gives is the number that its text holds.
use Rattle.std.proofs.Common.{◌≡◌, ◌∙◌, ap, ◌^◌, ◌<◌, ℕ, Bool, true, false, refl, arith, Option, Some, None, Result, Ok, Err}
use Rattle.std.specs.Prelude.{option_and_then}
use Rattle.std.specs.Str.Parse.{IsNumeral, ParsesUnsigned, digits_value, without_leading_plus}
use Rattle.clap.specs.Words.{ReadsOne, one_text, rows_of}
use Rattle.clap.specs.Walk.{Text}
use Rattle.clap.specs.ValueTests.{is_unsigned_in}
use Rattle.clap.specs.declared.builder.value_parser.ValueParser.TheVariants as parser
use Rattle.clap.specs.declared.parser.matches.Found.{Found}
use Rattle.clap.proofs.WalkLemmas.{one_text-rows}
use Rattle.clap.proofs.ValueTestLemmas.{Accepts-accepts, accepts-Accepts}
use Rattle.gib_words.specs.Words.{number_in, number_of}

number_parsed : (text : Text) (n : ℕ) → IsNumeral 10 (without_leading_plus text) → digits_value 10 (without_leading_plus text) < 2 ^ 32
    → n ≡ digits_value 10 (without_leading_plus text) → Some n ≡ number_in text
number_parsed text n numeral below is =
    let value = digits_value 10 (without_leading_plus text) in
    let passes : is_unsigned_in 0 4294967295 text ≡ true =
    Accepts-accepts false (parser.Unsigned 0 4294967295) text (numeral, (omega arith), (omega arith), (omega arith)) in
    rw (passes, is) refl

-- The number that `get_one` reads.
pub number_read : (E : Type 0) (G : Text → Result ℕ E → Type 0) (text : Text) (r : Option ℕ) → ((t : Text) (x : Result ℕ E) → G t x → ParsesUnsigned 32 10 t x)
    → ReadsOne G text r → r ≡ number_in text
number_read E G text (Some n) reads gives =
    let parsed = reads text (Ok n) gives in
    number_parsed text n parsed.0.0 parsed.0.1 parsed.1
number_read E G text None reads gives =
    let refused = reads text (Err gives.0) gives.1 in
    go (is_unsigned_in 0 4294967295 text) refl refused
  where
    go : (b : Bool) → is_unsigned_in 0 4294967295 text ≡ b → (IsNumeral 10 (without_leading_plus text) × (digits_value 10 (without_leading_plus text) < 2 ^ 32) → ⊥) → None ≡ number_in text
    go false test refused = rw test refl
    go true test refused =
        let is = accepts-Accepts false (parser.Unsigned 0 4294967295) text test in
        absurd (refused (is.0, omega arith))

-- The number of an option, as `get_one` says what it reads.
pub one_number : (E : Type 0) (G : Text → Result ℕ E → Type 0) (f : Found) (id : Text) (r : Option ℕ) → ((t : Text) (x : Result ℕ E) → G t x → ParsesUnsigned 32 10 t x)
    → (one_text f id ≡ None → r ≡ None) → ((t : Text) → one_text f id ≡ Some t → ReadsOne G t r) → r ≡ number_of id (rows_of f)
one_number E G f id r reads without with = go (one_text f id) refl ∙ ap (option_and_then number_in) (one_text-rows f id)
  where
    go : (o : Option Text) → one_text f id ≡ o → r ≡ option_and_then number_in (one_text f id)
    go None is = rw is (without is)
    go (Some t) is = rw is (number_read E G t r reads (with t is))
