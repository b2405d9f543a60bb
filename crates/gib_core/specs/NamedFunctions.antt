-- Functions by the numbers of their names.
use Rattle.std.specs.Prelude.{◌≡◌, ℕ, ◌==◌, if◌then◌else◌, List, [], ◌∷◌, Option, Some, None, slice_get}
pub use Rattle.gib_base.specs.Entries.{joined, entry_at}
use Rattle.gib_core.specs.declared.program.CoreFunction.{CoreFunction}

-- The first function of a name.
abbrev pub first_named : List CoreFunction → ℕ → Option CoreFunction
first_named [] name = None
first_named (d ∷ ds) name = if d.name.0 == name then Some d else first_named ds name

-- The function at a place, where there is one.
abbrev pub at_place : List CoreFunction → Option ℕ → Option CoreFunction
at_place functions None = None
at_place functions (Some place) = slice_get functions place

-- At the number of each name stands the place of the first function of the name.
pub record IsIndex (functions : List CoreFunction) (places : List (Option ℕ)) : Type 0 where
  pub each : (name : ℕ) → at_place functions (entry_at places name) ≡ first_named functions name
