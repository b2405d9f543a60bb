-- The text of a value.
use Rattle.std.specs.Prelude.{◌<◌, ℕ, List, [], ◌∷◌, ◌++◌, length, Bool, true, false, codes, slice_get, unwrap_or}
use Rattle.std.specs.Fmt.{signed_decimal}
use Rattle.gib_types.specs.Table.{Table, name_at}
use Rattle.gib_types.specs.Tree.{Datum, whole, truth, con, Data, none, more}

-- The text of a truth value.
abbrev pub truth_text : Bool → List ℕ
truth_text false = codes "False"
truth_text true = codes "True"

-- The text of a constructor's name, with the names by their numbers.
abbrev pub con_text : Table → List (List ℕ) → ℕ → List ℕ
con_text table names k = unwrap_or (slice_get names (name_at table k)) []

-- The text of a value, and then the rest: a number in decimal, a truth value by its word, a constructor
-- without fields by its name; any other constructor in parentheses (40 and 41), its name and its fields
-- in declared order, each field after one space (32).
abbrev mutual
  pub spell : Table → List (List ℕ) → Datum → List ℕ → List ℕ
  spell table names (whole z) rest = signed_decimal z ++ rest
  spell table names (truth b) rest = truth_text b ++ rest
  spell table names (con k none) rest = con_text table names k ++ rest
  spell table names (con k (more v vs)) rest = 40 ∷ (con_text table names k ++ 32 ∷ spell table names v (spell_fields table names vs rest))

  -- The text of fields behind the first one, the parenthesis that closes them, and then the rest.
  pub spell_fields : Table → List (List ℕ) → Data → List ℕ → List ℕ
  spell_fields table names none rest = 41 ∷ rest
  spell_fields table names (more v vs) rest = 32 ∷ spell table names v (spell_fields table names vs rest)

-- The text of a value.
abbrev pub text : Table → List (List ℕ) → Datum → List ℕ
text table names v = spell table names v []

-- The names of all constructors are held.
abbrev pub AreHeld : Table → List (List ℕ) → Type 0
AreHeld table names = (k : ℕ) → k < length table.rows → name_at table k < length names
