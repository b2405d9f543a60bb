-- The heads of a value.
use Rattle.std.specs.Prelude.{ℕ, List, [], ◌∷◌, ◌++◌}
use Rattle.gib_types.specs.Tree.{Datum, whole, truth, con, Data, none, more}

-- What a head is of: a constructor by its tag, and the values of its fields.
pub record Head : Type 0 where
  pub tag : ℕ
  pub fields : Data

-- The heads of a value, and of the values of fields, in preorder.
abbrev mutual
  pub heads : Datum → List Head
  heads (whole z) = []
  heads (truth b) = []
  heads (con k vs) = record { tag = k; fields = vs } ∷ all_heads vs

  pub all_heads : Data → List Head
  all_heads none = []
  all_heads (more v vs) = heads v ++ all_heads vs
