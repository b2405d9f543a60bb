-- The constructors of a value by their tags.
use Rattle.std.specs.Prelude.{◌<◌, ℕ}
use Rattle.gib_types.specs.Tree.{Datum, whole, truth, con, Data, none, more}

-- Each constructor of the value, or of the fields, is one of so many.
abbrev mutual
  pub HasTags : ℕ → Datum → Type 0
  HasTags n (whole z) = Unit {0}
  HasTags n (truth b) = Unit {0}
  HasTags n (con k vs) = (k < n) × HaveTags n vs

  pub HaveTags : ℕ → Data → Type 0
  HaveTags n none = Unit {0}
  HaveTags n (more v vs) = HasTags n v × HaveTags n vs
