-- A packed file and an image begin with other bytes, and a file that is refused as one of them is not the other.
use Rattle.gib_base.specs.Texts.{TextsView}
use Rattle.std.proofs.Common.{◌≡◌, ◌∙◌, ℕ, ◌≤◌, List, ◌∷◌, length, take, Err, inl, inr, sym, ap, arith}
use Rattle.std.proofs.lemmas.List.{take-take}
use Rattle.gib_types.specs.declared.table.Ty.{Ty}
use Rattle.gib_types.specs.Layout.{LaidOut}
use Rattle.gib_types.specs.Tree.{Datum, IsTyped}
use Rattle.gib_packed.proofs.Typed.{Stands-typed}
use Rattle.gib_file.specs.Framed.{File, HasMagic}
use Rattle.gib_file.proofs.FileLaws.{inside}
use Rattle.gib_file.proofs.HeadLemmas.{parts}
use Rattle.gib_print.specs.declared.image_fault.ImageFault.{ImageFault as ReadFault}
use Rattle.gib_print.specs.declared.image_fault.ImageFault.TheVariants as reading
use Rattle.gib_print.specs.Image.{IsFormed}
use Rattle.gib_print.specs.ImageReading.{IsRead, IsRefused, ReadsTo}
use Rattle.gib_syntax.specs.Tree.{ProgramTree}
use Rattle.gib_syntax.specs.Declarations.{table_of_program, input_type, output_type}
use Rattle.gib_app.specs.Cores.{layouts_asked}
use Rattle.gib_app.specs.declared.input_fault.ImageFault.{ImageFault}
use Rattle.gib_app.specs.declared.input_fault.ImageFault.TheVariants as image
use Rattle.gib_app.specs.InputFaults.{HasImageSign, IsImageFault}
use Rattle.gib_app.specs.PassFaults.{image_stop}
use Rattle.gib_app.specs.Running.{IsInput, IsShownValue}
use Rattle.gib_app.specs.Stops.{IsShowStop}
use Rattle.gib_words.specs.declared.plan.Options.{Options}

abbrev fourth : List ℕ → ℕ
fourth (a ∷ b ∷ c ∷ d ∷ rest) = d
fourth rest = 0

pub signs_differ : (bytes : List ℕ) → HasMagic bytes → HasImageSign bytes → ⊥
signs_differ bytes m s = let both : 80 ≡ 73 = ap fourth (sym m ∙ s) in omega (arith, both)

-- Bytes with the form of an image begin as one.
pub formed_sign : (type : Ty) (bytes : List ℕ) → IsFormed type bytes → HasImageSign bytes
formed_sign type bytes f = sym (take-take 4 8 bytes (omega arith)) ∙ ap (take 4) f.begins

pub fault_sign : (p : ProgramTree) (laid : LaidOut) (bytes : List ℕ) (fault : ImageFault) → IsImageFault p laid bytes fault → HasImageSign bytes
fault_sign p laid bytes image.Header h = h.0
fault_sign p laid bytes (image.Item at) h = formed_sign (output_type p) bytes h.formed
fault_sign p laid bytes image.Long h = formed_sign (output_type p) bytes h.formed

pub file_magic : {names : TextsView} (p : ProgramTree) (v : Datum) (bytes : List ℕ) → IsInput p names v bytes → HasMagic bytes
file_magic p v bytes is = let h = inside _ _ _ v bytes is.file in (parts _ bytes h.framed).magic_is

-- What begins as a packed file, and is none, has no value that is shown.
pub no_packed_value : {names : TextsView} (p : ProgramTree) (laid : LaidOut) (bytes : List ℕ) → HasMagic bytes → ((v : Datum) → File (table_of_program p) names.long (input_type p) v bytes → ⊥) → ((v : Datum) × IsShownValue p names laid v bytes) → ⊥
no_packed_value p laid bytes m none' (v, inl is) = none' v is.file
no_packed_value p laid bytes m none' (v, inr read) = signs_differ bytes m (formed_sign (output_type p) bytes read.image.formed)

-- What begins as neither has none.
pub no_sign_value : {names : TextsView} (p : ProgramTree) (laid : LaidOut) (bytes : List ℕ) → (HasMagic bytes → ⊥) → (HasImageSign bytes → ⊥) → ((v : Datum) × IsShownValue p names laid v bytes) → ⊥
no_sign_value p laid bytes m s (v, inl is) = m (file_magic p v bytes is)
no_sign_value p laid bytes m s (v, inr read) = s (formed_sign (output_type p) bytes read.image.formed)

-- A value that is shown is typed.
pub shown_typed : {names : TextsView} (p : ProgramTree) (o : Options) (v : Datum) (bytes : List ℕ) → IsShownValue p names (layouts_asked o p) v bytes → IsTyped (table_of_program p) v
shown_typed p o v bytes (inl is) = (input_type p, (inside _ _ _ v bytes is.file).typed)
shown_typed p o v bytes (inr read) = (output_type p, Stands-typed read.image.stands)

-- The law that bytes that are read as a value are not refused.
abbrev pub ReadOrRefused : Type 0
ReadOrRefused = (laid : LaidOut) (type : Ty) (bytes : List ℕ) (v : Datum) (f : ReadFault) → IsRead laid type bytes v → IsRefused laid type bytes f → ⊥

module _ (law : ReadOrRefused) (p : ProgramTree) (names : TextsView) (laid : LaidOut) (bytes : List ℕ) where
  -- What begins as an image, and is none, has no value that is shown.
  pub no_image_value : (fault : ImageFault) → IsImageFault p laid bytes fault → (v : Datum) → IsShownValue p names laid v bytes → ⊥
  no_image_value fault h v (inl is) = signs_differ bytes (file_magic p v bytes is) (fault_sign p laid bytes fault h)
  no_image_value image.Header h v (inr read) = h.1 read.image.formed
  no_image_value (image.Item at) h v (inr read) = law laid (output_type p) bytes v (reading.Bad at) read h
  no_image_value image.Long h v (inr read) = law laid (output_type p) bytes v reading.Long read h

  -- A call stops at a fault of reading.
  pub image_stops : HasImageSign bytes → length bytes ≤ 268435480 → (fault : ReadFault) → ReadsTo laid (output_type p) bytes (Err fault) → IsShowStop p names laid bytes (image_stop fault)
  image_stops sign short reading.Memory h = tt {0}
  image_stops sign short reading.Head h = ((short, (sign, h)), λ a. no_image_value image.Header (sign, h) a.0 a.1)
  image_stops sign short (reading.Bad at) h = ((short, h), λ a. no_image_value (image.Item at) h a.0 a.1)
  image_stops sign short reading.Long h = ((short, h), λ a. no_image_value image.Long h a.0 a.1)
