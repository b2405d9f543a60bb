-- Numbers and their texts.
use Rattle.std.proofs.Common.{◌≡◌, ℕ, ◌<◌, ◌^◌, List, Result, Ok, sym, subst, rules}
use Rattle.std.specs.Prelude.{ℤ, FitsSigned}
use Rattle.std.specs.Int.{w64}
use Rattle.std.specs.Str.{IsUtf8}
use Rattle.std.specs.Str.Parse.{ParsesSigned}
use Rattle.std.specs.Fmt.{signed_decimal}
use lib.Signed.{mag}
use lib.IntN.{pos, negsuc}
use Rattle.std.proofs.lemmas.Fmt.{IsAscii-signed, parse-signed_decimal, signed_decimal_injective}
use Rattle.std.proofs.lemmas.Str.{IsUtf8-from_ascii}

pub mag_small : (z : ℤ) → FitsSigned w64 z → mag z < 2 ^ 63
mag_small (pos n) h = search rules
mag_small (negsuc n) h = search rules

pub number_utf8 : (z : ℤ) (bs : List ℕ) → FitsSigned w64 z → bs ≡ signed_decimal z → IsUtf8 bs
number_utf8 z bs h e = subst IsUtf8 (sym e) (IsUtf8-from_ascii (signed_decimal z) (IsAscii-signed z (mag_small z h)))

pub number_parses : {E : Type 0} (z : ℤ) (bs : List ℕ) (r : Result ℤ E) → FitsSigned w64 z → bs ≡ signed_decimal z → ParsesSigned w64 10 bs r → r ≡ Ok z
number_parses z bs r h e p = parse-signed_decimal w64 z bs r h (mag_small z h) e p

pub same_number : (z u : ℤ) → FitsSigned w64 z → FitsSigned w64 u → signed_decimal z ≡ signed_decimal u → z ≡ u
same_number z u h k e = signed_decimal_injective z u (mag_small z h) (mag_small u k) e

pub ok_same : {A E : Type 0} (r : Result A E) (x y : A) → r ≡ Ok x → r ≡ Ok y → x ≡ y
ok_same r x y e f = cc
