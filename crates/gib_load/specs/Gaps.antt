-- Gaps in heads: addresses at which it is noted where a packed field starts, once it begins.
use Rattle.std.specs.Prelude.{◌≡◌, ◌<◌, ◌^◌, ℕ, zero, suc, ◌+◌, ◌-◌, ◌*◌, length, List, [], ◌∷◌, ◌++◌, Bool, true, false, Option, Some, None}
use Rattle.gib_mem.specs.Memory.{Memory, after_puts}
use Rattle.gib_packed.specs.Head.{address}
use Rattle.gib_types.specs.Layout.{LaidOut, has_offsets}

-- The gaps that are due: whether gaps are kept, those of the values that are due, the next one first, and how many there is room for. A
-- value whose start no head stores has none.
pub record Dues : Type 0 where
  pub noting : Bool
  pub gaps : List (Option ℕ)
  pub room : ℕ

-- Those before the first head, whose start no head stores.
abbrev pub first_gaps : Bool → List (Option ℕ)
first_gaps false = []
first_gaps true = None ∷ []

-- So much is due of a payload before its first head: a gap is kept where a constructor has offsets, and then its addresses fit 32 bits.
pub record Begins (laid : LaidOut) (payload : List ℕ) (due : Dues) : Type 0 where
  pub small : due.noting ≡ true → length payload < 2 ^ 32
  pub first : due.gaps ≡ first_gaps due.noting
  pub plain : due.noting ≡ false → (k : ℕ) → k < length laid.table.rows → has_offsets laid k ≡ false

-- The gap of the next value.
abbrev pub next_gap : List (Option ℕ) → Option ℕ
next_gap [] = None
next_gap (d ∷ ds) = d

-- Those of the others.
abbrev pub later_gaps : List (Option ℕ) → List (Option ℕ)
later_gaps [] = []
later_gaps (d ∷ ds) = ds

-- How many places a head of so many packed fields stores: where its constructor has offsets, those of all but the first one.
abbrev pub stored_count : Bool → ℕ → ℕ
stored_count false packed = 0
stored_count true packed = packed - 1

-- The gap of a head's packed field with number i (from 0), where the gaps of the head begin at an address.
abbrev pub gap_of : Bool → ℕ → ℕ → Option ℕ
gap_of false base i = None
gap_of true base zero = None
gap_of true base (suc i) = Some (base + 8 * i)

-- The gaps of so many packed fields, from number i on.
abbrev pub gaps_from : Bool → ℕ → ℕ → ℕ → List (Option ℕ)
gaps_from stores base i zero = []
gaps_from stores base i (suc n) = gap_of stores base i ∷ gaps_from stores base (i + 1) n

-- With those of a head, where gaps are kept.
abbrev pub with_gaps : Bool → List (Option ℕ) → List (Option ℕ) → List (Option ℕ)
with_gaps false gaps dues = dues
with_gaps true gaps dues = gaps ++ dues

-- It is noted in a gap where a value starts.
abbrev pub noted : Memory → Option ℕ → ℕ → Memory
noted m None start = m
noted m (Some gap) start = after_puts m gap (address start)

-- It is noted in each gap where its value starts.
abbrev pub filled : Memory → List (Option ℕ) → List ℕ → Memory
filled m [] starts = m
filled m (d ∷ ds) [] = m
filled m (d ∷ ds) (p ∷ ps) = filled (noted m d p) ds ps
