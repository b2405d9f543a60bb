-- Why the inputs of a command are refused. Places count from 0: in a packed file from its payload's start, or from its description's.
use Rattle.gib_base.specs.Texts.{TextsView}
use Rattle.std.specs.Prelude.{◌≡◌, ◌≤◌, ◌<◌, ◌⊎◌, Bool, true, false, ℕ, List, [], ◌∷◌, length, take, Err}
use Rattle.gib_types.specs.declared.table.Ty.{Ty}
use Rattle.gib_types.specs.Table.{Table}
use Rattle.gib_types.specs.Tree.{Datum}
use Rattle.gib_file.specs.declared.fault.HeadFault.TheVariants as header
use Rattle.gib_file.specs.declared.fault.PackFault.{PackFault}
use Rattle.gib_file.specs.declared.fault.PackFault.TheVariants as payload
use Rattle.gib_file.specs.Framed.{Content, Framed, HasMagic, IsFirstFault}
use Rattle.gib_file.specs.Describing.{Agrees, Differs}
use Rattle.gib_file.specs.Reading.{read_all}
use Rattle.gib_value.specs.Reading.{IsRefusedAt}
use Rattle.gib_syntax.specs.Tree.{ProgramTree}
use Rattle.gib_syntax.specs.Declarations.{table_of_program, input_type, output_type}
use Rattle.gib_app.specs.declared.input_fault.InputFault.{InputFault}
use Rattle.gib_app.specs.declared.input_fault.InputFault.TheVariants.{Long, Packed, Image, Text, Journal}
use Rattle.gib_app.specs.declared.input_fault.JournalFault.{JournalFault}
use Rattle.gib_app.specs.declared.input_fault.JournalFault.TheVariants as journal
use Rattle.gib_app.specs.declared.input_fault.PackedFault.{PackedFault}
use Rattle.gib_app.specs.declared.input_fault.PackedFault.TheVariants.{Header, Types, Short, Tag, Truth, Trailing}
use Rattle.gib_print.specs.declared.image_fault.ImageFault.TheVariants as reading
use Rattle.gib_print.specs.Image.{IsFormed}
use Rattle.gib_print.specs.ImageReading.{IsRefused}
use Rattle.gib_app.specs.declared.input_fault.ImageFault.{ImageFault}
use Rattle.gib_app.specs.declared.input_fault.ImageFault.TheVariants as image
use Rattle.gib_app.specs.Packing.{without_feed, IsPackable, IsFileOf}
use Rattle.gib_app.specs.Running.{IsInput}
use Rattle.gib_app.specs.Replaying.{IsJournal, IsNotEnabled, IsNotEnded}
use Rattle.gib_locked.specs.declared.journal.Line.{Line}
use Rattle.gib_locked.specs.declared.settings.Settings.{Settings}
use Rattle.gib_locked.specs.JournalReading.{IsRefusedAt as IsRefusedLine}
use Rattle.gib_types.specs.Layout.{LaidOut}

-- The header has no fault, and what the file says of its types differs from the type's description first at this place.
pub record IsTypesFault (table : Table) (names : List (List ℕ)) (ty : Ty) (bytes : List ℕ) (at : ℕ) : Type 0 where
  pub content : Content
  pub framed : Framed content bytes
  pub differs : Differs table names ty content.description at

-- The header has no fault, what the file says of its types agrees with the type, and this is the first fault that reading meets in
-- the payload.
pub record IsPayloadFault (table : Table) (names : List (List ℕ)) (ty : Ty) (bytes : List ℕ) (fault : PackFault) : Type 0 where
  pub content : Content
  pub framed : Framed content bytes
  pub agrees : Agrees table names ty content.description
  pub read : read_all table ty content.payload ≡ Err fault

-- The bytes are no packed file of a value of the type, whatever their number: the first fault of the header, else of the
-- description, else of the payload.
abbrev pub IsFileFault : Table → List (List ℕ) → Ty → List ℕ → PackedFault → Type 0
IsFileFault table names ty bytes (Header fault) = IsFirstFault bytes fault
IsFileFault table names ty bytes (Types place) = IsTypesFault table names ty bytes place
IsFileFault table names ty bytes (Short place) = IsPayloadFault table names ty bytes (payload.Short place)
IsFileFault table names ty bytes (Tag place) = IsPayloadFault table names ty bytes (payload.Tag place)
IsFileFault table names ty bytes (Truth place) = IsPayloadFault table names ty bytes (payload.Truth place)
IsFileFault table names ty bytes (Trailing place) = IsPayloadFault table names ty bytes (payload.Trailing place)

-- The first fault of a packed file that is to be of the type of main's parameter.
abbrev pub IsPackedFault : ProgramTree → TextsView → List ℕ → PackedFault → Type 0
IsPackedFault p names bytes fault = (length bytes ≤ 16777216) × IsFileFault (table_of_program p) names.long (input_type p) bytes fault

-- The input of a run is refused for this fault: it has more than 16,777,216 bytes, or is no packed file.
abbrev pub IsInputFault : ProgramTree → TextsView → List ℕ → InputFault → Type 0
IsInputFault p names bytes (Long most) = (most ≡ 16777216) × (16777216 < length bytes)
IsInputFault p names bytes (Packed fault) = IsPackedFault p names bytes fault
IsInputFault p names bytes (Image fault) = ⊥
IsInputFault p names bytes (Text place) = ⊥
IsInputFault p names bytes (Journal fault) = ⊥

-- The file has more than 268,435,480 bytes; or it begins as a packed file and has more than 16,777,216.
abbrev pub IsTooLong : List ℕ → ℕ → Type 0
IsTooLong bytes most =
    ((most ≡ 268435480) × (268435480 < length bytes))
    ⊎ ((most ≡ 16777216) × (16777216 < length bytes) × (length bytes ≤ 268435480) × HasMagic bytes)

-- The bytes begin with those of each image: GIBI.
abbrev pub HasImageSign : List ℕ → Type 0
HasImageSign bytes = take 4 bytes ≡ 71 ∷ 73 ∷ 66 ∷ 73 ∷ []

-- The first fault, in reading order, of bytes that are to be an image of a value of the type of main's result.
abbrev pub IsImageFault : ProgramTree → (laid : LaidOut) → List ℕ → ImageFault → Type 0
IsImageFault p laid bytes image.Header = HasImageSign bytes × (IsFormed (output_type p) bytes → ⊥)
IsImageFault p laid bytes (image.Item at) = IsRefused laid (output_type p) bytes (reading.Bad at)
IsImageFault p laid bytes image.Long = IsRefused laid (output_type p) bytes reading.Long

-- The file that is to be shown is refused for this fault: it is too long, begins neither as a packed file nor as an image, or
-- is none.
abbrev pub IsShowFault : ProgramTree → TextsView → (laid : LaidOut) → List ℕ → InputFault → Type 0
IsShowFault p names laid bytes (Long most) = IsTooLong bytes most
IsShowFault p names laid bytes (Packed (Header header.Magic)) = (length bytes ≤ 268435480) × IsFirstFault bytes header.Magic × (HasImageSign bytes → ⊥)
IsShowFault p names laid bytes (Packed fault) = IsPackedFault p names bytes fault
IsShowFault p names laid bytes (Image fault) = (length bytes ≤ 268435480) × IsImageFault p laid bytes fault
IsShowFault p names laid bytes (Text place) = ⊥
IsShowFault p names laid bytes (Journal fault) = ⊥

-- The bytes are what is packed of a value, and the file that is made of it has more than 16,777,216 bytes.
pub record HasLongFile (repacks first : Bool) (p : ProgramTree) (names : TextsView) (bytes : List ℕ) : Type 0 where
  pub value : Datum
  pub file : List ℕ
  pub packable : IsPackable repacks p names value bytes
  pub is_file : IsFileOf first p names value file
  pub many : 16777216 < length file

-- What is to be packed is refused for this fault: it has too many bytes; or it is no text of a value, by the first token that
-- cannot stand in one, or, where a packed file is due, none; or the file that is made would have too many bytes.
abbrev pub IsPackFault : (repacks first : Bool) → ProgramTree → TextsView → List ℕ → InputFault → Type 0
IsPackFault repacks first p names bytes (Long most) =
    (most ≡ 16777216) × ((16777216 < length bytes) ⊎ ((length bytes ≤ 16777216) × HasLongFile repacks first p names bytes))
IsPackFault repacks first p names bytes (Packed fault) = (repacks ≡ true) × IsPackedFault p names bytes fault
IsPackFault repacks first p names bytes (Image fault) = ⊥
IsPackFault repacks first p names bytes (Text place) =
    (repacks ≡ false) × (length bytes ≤ 16777216) × IsRefusedAt (table_of_program p) names.short (input_type p) (without_feed bytes) place
IsPackFault repacks first p names bytes (Journal fault) = ⊥

-- Why no journal is replayed on a value: the line of this number is the first that cannot stand in a journal; an event of the line of
-- this number is not enabled; or all events happen, and the root has not ended.
abbrev pub IsJournalFault : ProgramTree → Datum → List ℕ → JournalFault → Type 0
IsJournalFault p v bytes (journal.Line n) = (length bytes ≤ 16777216) × IsRefusedLine bytes n
IsJournalFault p v bytes (journal.NotEnabled n) =
    (settings : Settings) × (lines : List Line) × IsJournal settings lines bytes × IsNotEnabled p v settings lines n
IsJournalFault p v bytes journal.NotEnded = (settings : Settings) × (lines : List Line) × IsJournal settings lines bytes × IsNotEnded p v settings lines

-- The inputs of a replay are refused for this fault: the first is no packed file; or else the journal has more than 16,777,216 bytes, is
-- none, or its events do not lead on.
abbrev pub IsReplayFault : ProgramTree → TextsView → (input bytes : List ℕ) → InputFault → Type 0
IsReplayFault p names input bytes (Long most) =
    IsInputFault p names input (Long most) ⊎ (((v : Datum) × IsInput p names v input) × (most ≡ 16777216) × (16777216 < length bytes))
IsReplayFault p names input bytes (Packed fault) = IsPackedFault p names input fault
IsReplayFault p names input bytes (Image fault) = ⊥
IsReplayFault p names input bytes (Text place) = ⊥
IsReplayFault p names input bytes (Journal fault) = (v : Datum) × IsInput p names v input × IsJournalFault p v bytes fault
