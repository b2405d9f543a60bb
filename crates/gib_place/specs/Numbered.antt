-- What stands at variables, by their numbers: numbers, or the places of the variables in an order.
use Rattle.std.specs.Prelude.{◌≡◌, ℕ, suc, ◌==◌, if◌then◌else◌, List, [], ◌∷◌, Option, Some, None}
use Rattle.gib_base.specs.Entries.{entry_at}
pub use Rattle.gib_core.specs.ByVariable.{number_at}

-- The place of a number in a list whose first one has this place, where it is there.
abbrev pub place_from : ℕ → List ℕ → ℕ → Option ℕ
place_from place [] x = None
place_from place (y ∷ ys) x = if y == x then Some place else place_from (suc place) ys x

-- The table holds the places of a list.
abbrev pub ArePlaces : List ℕ → List (Option ℕ) → Type 0
ArePlaces xs entries = (x : ℕ) → entry_at entries x ≡ place_from 0 xs x
