-- The text of a value of a program with type parameters.
use Rattle.std.specs.Prelude.{ℕ, List, [], ◌∷◌, ◌++◌, slice_get, Option, Some, None}
use Rattle.std.specs.Fmt.{signed_decimal}
use Rattle.gib_types.specs.Tree.{Datum, whole, truth, con, Data, none, more}
use Rattle.gib_value.specs.Text.{truth_text}
use Rattle.gib_syntax.specs.GenericTree.{GenericRow}
use Rattle.gib_mono.specs.Showing.{source_text}

-- The text of a constructor's name.
abbrev pub row_text : List (List ℕ) → Option GenericRow → List ℕ
row_text names None = []
row_text names (Some row) = source_text names row.name

-- The text of the name of the constructor with this number.
abbrev pub generic_con_text : List GenericRow → List (List ℕ) → ℕ → List ℕ
generic_con_text rows names c = row_text names (slice_get rows c)

abbrev mutual
  -- The text of a value, and then the rest, as that of a value of a program without type parameters.
  pub generic_spell : List GenericRow → List (List ℕ) → Datum → List ℕ → List ℕ
  generic_spell rows names (whole z) rest = signed_decimal z ++ rest
  generic_spell rows names (truth b) rest = truth_text b ++ rest
  generic_spell rows names (con k none) rest = generic_con_text rows names k ++ rest
  generic_spell rows names (con k (more v vs)) rest =
      40 ∷ (generic_con_text rows names k ++ 32 ∷ generic_spell rows names v (generic_spell_fields rows names vs rest))

  -- The further fields of a constructor, and its closing parenthesis.
  pub generic_spell_fields : List GenericRow → List (List ℕ) → Data → List ℕ → List ℕ
  generic_spell_fields rows names none rest = 41 ∷ rest
  generic_spell_fields rows names (more v vs) rest = 32 ∷ generic_spell rows names v (generic_spell_fields rows names vs rest)

-- The text of a value.
abbrev pub generic_text : List GenericRow → List (List ℕ) → Datum → List ℕ
generic_text rows names v = generic_spell rows names v []
