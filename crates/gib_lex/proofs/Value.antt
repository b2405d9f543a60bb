-- A number that is too large stays so.
use Rattle.std.proofs.Common.{◌≡◌, ℕ, ◌+◌, ◌*◌, ◌-◌, ◌^◌, ◌<◌, ◌≤◌, List, [], ◌∷◌, length, refl, arith}
use Rattle.std.proofs.lemmas.Bool.{le-ltb}
use Rattle.gib_base.specs.declared.token.Piece.TheVariants.{TooBig}
use Rattle.gib_base.specs.Spelling.{value_from, number_piece}

pub value_from_above : (n : ℕ) (digits : List ℕ) → n ≤ value_from n digits
value_from_above n [] = omega arith
value_from_above n (b ∷ rest) = omega (arith, value_from_above (10 * n + (b - 48)) rest)

pub too_big : (n : ℕ) (digits : List ℕ) → 922337203685477581 ≤ n → 0 < length digits → 2 ^ 63 ≤ value_from n digits
too_big n [] le lt = absurd (omega arith)
too_big n (b ∷ rest) le lt = omega (arith, value_from_above (10 * n + (b - 48)) rest)

pub number_piece_big : (n : ℕ) → 2 ^ 63 ≤ n → number_piece n ≡ TooBig
number_piece_big n le = rw (le-ltb _ _ le) refl
