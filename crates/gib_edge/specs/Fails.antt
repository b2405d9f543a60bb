-- The calls at which a shelf or a sink in memory fails.
use Rattle.std.specs.Prelude.{ℕ, List, [], ◌∷◌, Option, Some, None, if◌then◌else◌, ◌==◌}

-- After how many bytes a call fails, by the first pair with its number; none: it does not fail.
abbrev pub part_at : List (ℕ × ℕ) → ℕ → Option ℕ
part_at [] call = None
part_at (fail ∷ fails) call = if fail.0 == call then Some fail.1 else part_at fails call
