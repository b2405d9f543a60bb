-- A file with a fault is the packed file of no value, and a call stops at it.
use Rattle.gib_base.specs.Texts.{TextsView}
use Rattle.std.proofs.Common.{◌≡◌, ℕ, ◌≤◌, List, length, Err}
use Rattle.gib_types.specs.declared.table.Ty.{Ty}
use Rattle.gib_types.specs.Table.{Table}
use Rattle.gib_types.specs.Tree.{Datum}
use Rattle.gib_file.specs.declared.fault.HeadFault.{HeadFault}
use Rattle.gib_file.specs.declared.fault.HeadFault.TheVariants as header
use Rattle.gib_file.specs.declared.fault.SchemaFault.{SchemaFault}
use Rattle.gib_file.specs.declared.fault.SchemaFault.TheVariants as schema
use Rattle.gib_file.specs.declared.fault.PackFault.{PackFault}
use Rattle.gib_file.specs.declared.fault.PackFault.TheVariants as payload
use Rattle.gib_file.specs.Framed.{Content, File, Framed, HasMagic, IsFirstFault}
use Rattle.gib_file.specs.Agreeing.{IsSchemaFault}
use Rattle.gib_file.specs.Describing.{Agrees, Differs}
use Rattle.gib_file.specs.Reading.{Fails, read_all}
use Rattle.gib_syntax.specs.Tree.{ProgramTree}
use Rattle.gib_syntax.specs.Declarations.{table_of_program, input_type}
use Rattle.gib_app.specs.declared.input_fault.InputFault.TheVariants as input
use Rattle.gib_app.specs.declared.input_fault.PackedFault.{PackedFault}
use Rattle.gib_app.specs.declared.input_fault.PackedFault.TheVariants.{Header, Types, Short, Tag, Truth, Trailing}
use Rattle.gib_app.specs.declared.stop.Stop.{Stop}
use Rattle.gib_app.specs.InputFaults.{IsFileFault, IsPayloadFault, IsShowFault}
use Rattle.gib_app.specs.Running.{IsShownValue}
use Rattle.gib_app.specs.PassFaults.{packed_stop, payload_stop, schema_stop}
use Rattle.gib_app.specs.Stops.{IsPackedStop, IsRunStop, IsShowStop}
use Rattle.gib_app.proofs.Signs.{no_packed_value}
use Rattle.gib_app.proofs.StopMaps.{never, only_packed, stops_map}
use Rattle.gib_types.specs.Layout.{LaidOut}

abbrev pub HeaderRefuses : Type 0
HeaderRefuses = (table : Table) (names : List (List ℕ)) (ty : Ty) (v : Datum) (bytes : List ℕ) (fault : HeadFault) → IsFirstFault bytes fault → File table names ty v bytes → ⊥

abbrev pub TypesRefuse : Type 0
TypesRefuse = (table : Table) (names : List (List ℕ)) (ty : Ty) (c : Content) (bytes : List ℕ) (at : ℕ) → Framed c bytes → Differs table names ty c.description at → (v : Datum) → File table names ty v bytes → ⊥

abbrev pub PayloadRefuses : Type 0
PayloadRefuses = (table : Table) (names : List (List ℕ)) (ty : Ty) (c : Content) (bytes : List ℕ) (fault : PackFault) → Framed c bytes → read_all table ty c.payload ≡ Err fault → (v : Datum) → File table names ty v bytes → ⊥

module _ (headers : HeaderRefuses) (types : TypesRefuse) (payloads : PayloadRefuses) (table : Table) (names : List (List ℕ)) (ty : Ty) (bytes : List ℕ) where
  by_payload : (fault : PackFault) → IsPayloadFault table names ty bytes fault → (v : Datum) → File table names ty v bytes → ⊥
  by_payload fault h v file = payloads table names ty h.content bytes fault h.framed h.read v file

  pub no_file : (fault : PackedFault) → IsFileFault table names ty bytes fault → (v : Datum) → File table names ty v bytes → ⊥
  no_file (Header fault) h v file = headers table names ty v bytes fault h file
  no_file (Types place) h v file = types table names ty h.content bytes place h.framed h.differs v file
  no_file (Short place) h v file = by_payload (payload.Short place) h v file
  no_file (Tag place) h v file = by_payload (payload.Tag place) h v file
  no_file (Truth place) h v file = by_payload (payload.Truth place) h v file
  no_file (Trailing place) h v file = by_payload (payload.Trailing place) h v file

  refuses : (fault : PackedFault) → IsFileFault table names ty bytes fault → IsPackedStop table names ty bytes (packed_stop fault)
  refuses fault h = (h, no_file fault h)

  pub header_stops : (fault : HeadFault) → IsFirstFault bytes fault → IsPackedStop table names ty bytes (packed_stop (Header fault))
  header_stops fault h = refuses (Header fault) h

  pub types_stop : (content : Content) (fault : SchemaFault) → Framed content bytes → IsSchemaFault table names ty content.description fault → IsPackedStop table names ty bytes (schema_stop fault)
  types_stop content schema.Memory framed h = tt {0}
  types_stop content (schema.At place) framed h = refuses (Types place) (record { content = content; framed = framed; differs = h })

  pub payload_stops : (content : Content) (fault : PackFault) → Framed content bytes → Agrees table names ty content.description → Fails fault (read_all table ty content.payload) → IsPackedStop table names ty bytes (payload_stop fault)
  payload_stops content payload.Memory framed agrees h = tt {0}
  payload_stops content (payload.Short place) framed agrees h = refuses (Short place) (record { content = content; framed = framed; agrees = agrees; read = h })
  payload_stops content (payload.Tag place) framed agrees h = refuses (Tag place) (record { content = content; framed = framed; agrees = agrees; read = h })
  payload_stops content (payload.Truth place) framed agrees h = refuses (Truth place) (record { content = content; framed = framed; agrees = agrees; read = h })
  payload_stops content (payload.Trailing place) framed agrees h = refuses (Trailing place) (record { content = content; framed = framed; agrees = agrees; read = h })

-- A job stops where its file is refused as a packed one.

module _ (p : ProgramTree) (names : TextsView) (bytes : List ℕ) (short : length bytes ≤ 16777216) where
  pub run_stop : (stop : Stop) → IsPackedStop (table_of_program p) names.long (input_type p) bytes stop → IsRunStop p names bytes stop
  run_stop stop h = stops_map _ _ _ _ _ _ _ _ _ _ stop h (never _) (never _) (only_packed _ _ (λ fault c. ((short, c.0), λ a. c.1 a.0 a.1.file))) (never _) (never _)

-- The same where a file that begins as a packed one is shown.
module _ (p : ProgramTree) (names : TextsView) (laid : LaidOut) (bytes : List ℕ) (short : length bytes ≤ 16777216) (magic : HasMagic bytes) where
  pub show_stop : (stop : Stop) → IsPackedStop (table_of_program p) names.long (input_type p) bytes stop → IsShowStop p names laid bytes stop
  show_stop stop h = stops_map _ _ _ _ _ _ _ _ _ _ stop h (never _) (never _) (only_packed _ _ refused) (never _) (never _)
    where
      refused : (fault : PackedFault) → IsFileFault (table_of_program p) names.long (input_type p) bytes fault × ((v : Datum) → File (table_of_program p) names.long (input_type p) v bytes → ⊥)
          → IsShowFault p names laid bytes (input.Packed fault) × (((v : Datum) × IsShownValue p names laid v bytes) → ⊥)
      refused (Header header.Magic) c = absurd (c.0 magic)
      refused (Header (header.Version v)) c = ((short, c.0), no_packed_value p laid bytes magic c.1)
      refused (Header header.Reserved) c = ((short, c.0), no_packed_value p laid bytes magic c.1)
      refused (Header header.Length) c = ((short, c.0), no_packed_value p laid bytes magic c.1)
      refused (Types place) c = ((short, c.0), no_packed_value p laid bytes magic c.1)
      refused (Short place) c = ((short, c.0), no_packed_value p laid bytes magic c.1)
      refused (Tag place) c = ((short, c.0), no_packed_value p laid bytes magic c.1)
      refused (Truth place) c = ((short, c.0), no_packed_value p laid bytes magic c.1)
      refused (Trailing place) c = ((short, c.0), no_packed_value p laid bytes magic c.1)
