-- Numbers that stand at variables.
use Rattle.std.specs.Prelude.{ℕ, List, Option, Some, None}
use Rattle.gib_base.specs.Entries.{entry_at}

-- A number, 0 where there is none.
abbrev pub or_zero : Option ℕ → ℕ
or_zero None = 0
or_zero (Some n) = n

-- The number that stands at a variable's number, 0 where none does.
abbrev pub number_at : List (Option ℕ) → ℕ → ℕ
number_at entries x = or_zero (entry_at entries x)
