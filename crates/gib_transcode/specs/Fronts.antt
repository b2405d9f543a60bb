-- What stands at the front of a text, and what is put for it.
use Rattle.std.specs.Prelude.{◌≡◌, ◌<◌, ◌≤◌, ◌+◌, ℕ, List, [], ◌∷◌, ◌++◌, length, Some}
use Rattle.gib_types.specs.declared.table.Ty.{Ty}
use Rattle.gib_types.specs.declared.table.TyId.{TyId}
use Rattle.gib_types.specs.declared.table.Ty.TheVariants.{Tree}
use Rattle.gib_types.specs.Table.{Table, con_at, fields_at}
use Rattle.gib_types.specs.Tree.{Datum, HasType}
use Rattle.gib_value.specs.Text.{spell, con_text}
use Rattle.gib_file.specs.Packed.{scalar, tree}
use Rattle.gib_transcode.specs.Rooms.{room, over}

-- The text begins with that of a value of the type, behind which it goes on so; a scalar's bytes are put at the place, behind
-- which the next one has its own, and a constructor's behind the old ones.
pub record Reads (table : Table) (names : List (List ℕ)) (ty : Ty) (place : ℕ) (bytes later old new : List ℕ) (after : ℕ) : Type 0 where
  pub value : Datum
  pub typed : HasType table value ty
  pub spelled : bytes ≡ spell table names value later
  pub put : new ≡ over place (scalar value) old ++ tree value
  pub passed : after ≡ place + length (scalar value)
  pub shorter : length later ≤ length bytes

-- The text begins with the name of a constructor of the type that has fields, behind which it goes on so; its tag and room for
-- its scalars are put behind the old bytes.
pub record Enters (table : Table) (names : List (List ℕ)) (ty : Ty) (con : ℕ) (bytes later old new : List ℕ) : Type 0 where
  pub of : TyId
  pub is : ty ≡ Tree of
  pub own : con_at table of.0 con ≡ Some con
  pub some : 0 < length (fields_at table con)
  pub spelled : bytes ≡ con_text table names con ++ later
  pub put : new ≡ old ++ con ∷ room (fields_at table con)
  pub shorter : length later ≤ length bytes
