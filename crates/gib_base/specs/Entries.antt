-- What stands at numbers, as a list: at each number something or nothing.
use Rattle.std.specs.Prelude.{ℕ, List, Option, Some, None, slice_get}

-- What there is, where there is something at all.
abbrev pub joined : {A : Type 0} → Option (Option A) → Option A
joined None = None
joined (Some o) = o

-- What stands at a number; past the end nothing does.
abbrev pub entry_at : {A : Type 0} → List (Option A) → ℕ → Option A
entry_at entries number = joined (slice_get entries number)
