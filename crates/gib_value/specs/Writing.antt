-- What is left to write of a value's text.
use Rattle.std.specs.Prelude.{◌<◌, ◌+◌, ℕ, List, [], ◌∷◌, length}
use Rattle.gib_types.specs.Table.{Table}
use Rattle.gib_types.specs.Tree.{Datum, whole, truth, con, Data, none, more}
use Rattle.gib_value.specs.declared.write.Due.{Due}
use Rattle.gib_value.specs.declared.write.Due.TheVariants.{Field, Close}
use Rattle.gib_value.specs.Heap.{value_of, IsWithin}
use Rattle.gib_value.specs.Text.{spell}
use Rattle.gib_value.specs.Tags.{HasTags}

-- The text of what is due, the first one first.
abbrev pub due_text : Table → List (List ℕ) → List Datum → List Due → List ℕ
due_text table names heap [] = []
due_text table names heap (Field n ∷ due) = 32 ∷ spell table names (value_of heap n) (due_text table names heap due)
due_text table names heap (Close ∷ due) = 41 ∷ due_text table names heap due

-- What is due stands in the heap, and each of its constructors is one of so many.
abbrev pub IsDue : ℕ → List Datum → Due → Type 0
IsDue n heap (Field node) = IsWithin (length heap) node × HasTags n (value_of heap node)
IsDue n heap Close = Unit {0}

-- How much there is to write of a value.
abbrev mutual
  pub size : Datum → ℕ
  size (whole z) = 1
  size (truth b) = 1
  size (con k vs) = sizes vs + 2

  -- How much there is to write of fields.
  pub sizes : Data → ℕ
  sizes none = 0
  sizes (more v vs) = size v + sizes vs

-- How much there is to write of what is due.
abbrev pub due_size : List Datum → List Due → ℕ
due_size heap [] = 0
due_size heap (Field node ∷ due) = size (value_of heap node) + due_size heap due
due_size heap (Close ∷ due) = 1 + due_size heap due
