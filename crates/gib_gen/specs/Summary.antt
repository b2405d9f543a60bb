-- The line about the value that a made program gives.
use Rattle.std.specs.Prelude.{ℕ, List, [], ◌∷◌, ◌++◌, codes}
use Rattle.std.specs.Fmt.{decimal, signed_decimal}
use Rattle.gib_types.specs.Tree.{Datum}
use Rattle.gib_print.specs.Numbers.{numbers, count_of, total_of}

-- The line about a value that a program made of a number gives on an input of so many levels:
-- `gen NUMBER levels LEVELS leaves COUNT sum SUM` and a line feed. It tells how many whole numbers the value has, modulo 2^64, and
-- their sum, wrapped to 64 bits with a sign.
abbrev pub summary_line : ℕ → ℕ → Datum → List ℕ
summary_line number levels v =
    codes "gen " ++ decimal number ++ codes " levels " ++ decimal levels ++ codes " leaves " ++ decimal (count_of (numbers v))
    ++ codes " sum " ++ signed_decimal (total_of (numbers v)) ++ 10 ∷ []
