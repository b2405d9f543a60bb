-- A core with what lowering asks of it.
use Rattle.std.specs.Prelude.{◌≡◌, ℕ, List, Option, length}
use Rattle.gib_types.specs.Layout.{LaidOut}
use Rattle.gib_core.specs.Parts.{Parts, core_of}
use Rattle.gib_core.specs.declared.atom.Ended.{Ended}
use Rattle.gib_core.specs.Ending.{ended}
use Rattle.gib_core.specs.Low.{laid_of}
use Rattle.gib_lower.specs.Numbers.{IsIndex}

-- Layouts, numbers and ended parameters are those of the core, and there are so many functions.
pub record IsSource (core : Parts) (layouts : LaidOut) (numbers : List (Option ℕ)) (set : List Ended) (count : ℕ) : Type 0 where
  pub layouts_are : layouts ≡ laid_of (core_of core)
  pub index : IsIndex core.functions numbers
  pub set_is : set ≡ ended (core_of core)
  pub all : count ≡ length core.functions
