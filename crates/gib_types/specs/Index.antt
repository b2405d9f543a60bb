-- What the code keeps beside a table, to find constructors without a search.
use Rattle.std.specs.Prelude.{◌≡◌, ◌+◌, ◌<◌, ℕ, List, Option, length, slice_get, slice_index, Some}
use Rattle.gib_base.specs.Entries.{entry_at}
use Rattle.gib_types.specs.Row.{Row, Table}
use Rattle.gib_types.specs.Table.{first_at, IsTable, IsNamed}
use Rattle.gib_types.specs.declared.table.Constructor.{Constructor}

-- Where the constructors of each type begin, and at the end where those of the last type end.
pub record AreFirsts (table : Table) (firsts : List ℕ) : Type 0 where
  pub each : (ty : ℕ) → ty < length table.types + 1 → slice_index firsts ty ≡ first_at table ty
  pub long : length firsts ≡ length table.types + 1

-- The number of each constructor stands at the number of its name, and nothing stands at other numbers.
pub record ArePlaces (table : Table) (places : List (Option ℕ)) : Type 0 where
  pub each : (con : ℕ) (row : Row) → slice_get table.rows con ≡ Some row → entry_at places row.name ≡ Some con
  pub only : (name con : ℕ) → entry_at places name ≡ Some con → IsNamed table name con

-- What a table keeps, and what is kept beside it.
pub record IsIndexed (table : Table) (firsts : List ℕ) (places : List (Option ℕ)) : Type 0 where
  pub rules : IsTable table
  pub begin : AreFirsts table firsts
  pub stand : ArePlaces table places

-- No two of the constructors have one name.
abbrev pub NamesDiffer : List Constructor → Type 0
NamesDiffer cs = (i j : ℕ) (c d : Constructor) → slice_get cs i ≡ Some c → slice_get cs j ≡ Some d → c.name.0 ≡ d.name.0 → i ≡ j

-- There is such a constructor, and it has the name.
pub record HasName (cs : List Constructor) (con name : ℕ) : Type 0 where
  pub c : Constructor
  pub is : slice_get cs con ≡ Some c
  pub named : c.name.0 ≡ name

-- The number of each of the constructors stands at the number of its name, and nothing stands at other numbers.
pub record ArePlacesOf (cs : List Constructor) (places : List (Option ℕ)) : Type 0 where
  pub each : (i : ℕ) (c : Constructor) → slice_get cs i ≡ Some c → entry_at places c.name.0 ≡ Some i
  pub only : (name con : ℕ) → entry_at places name ≡ Some con → HasName cs con name
