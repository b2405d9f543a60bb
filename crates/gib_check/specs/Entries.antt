-- What stands at the numbers of names.
use Rattle.std.specs.Prelude.{◌≡◌, ◌<◌, ◌^◌, ℕ, List, length, Option, Some, None}
pub use Rattle.gib_base.specs.Entries.{joined, entry_at}
use Rattle.gib_syntax.specs.Declarations.{place_of}

-- The first of two, where it is there, else the second.
abbrev pub first_of : {A : Type 0} → Option A → Option A → Option A
first_of None o = o
first_of (Some x) o = Some x

-- At the number of each name stands the first place of the name; there are fewer than 2^32 names.
pub record ArePlaces (names : List ℕ) (places : List (Option ℕ)) : Type 0 where
  pub few : length names < 2 ^ 32
  pub each : (name : ℕ) → entry_at places name ≡ place_of names name
