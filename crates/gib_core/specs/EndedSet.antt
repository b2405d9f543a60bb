-- Ended parameters as a set of numbers.
use Rattle.std.specs.Prelude.{◌≡◌, ◌<◌, ◌≤◌, ◌+◌, ◌*◌, ◌^◌, ℕ, false, List}
use Rattle.std.specs.Ordering.{nat_cmp}
use Rattle.std.specs.BTreeSet.{BTreeSet, contains}
use Rattle.gib_core.specs.Ending.{Ended, has_ended}

-- The number of a packed parameter.
abbrev pub number_of : ℕ → ℕ → ℕ
number_of f k = f * 2 ^ 32 + k

-- The numbers are those of these parameters, whose places are numbers of 32 bits.
pub record HasNumbers (numbers : BTreeSet ℕ) (es : List Ended) : Type 0 where
  pub near : (f k : ℕ) → k < 2 ^ 32 → contains nat_cmp numbers (number_of f k) ≡ has_ended es f k
  pub far : (f k : ℕ) → 2 ^ 32 ≤ k → has_ended es f k ≡ false
