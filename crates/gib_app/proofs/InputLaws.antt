-- Inputs are refused for one fault, and then they are not accepted.
use Rattle.gib_base.specs.Texts.{TextsView}
use Rattle.std.proofs.Common.{◌≡◌, ◌∙◌, refl, Bool, true, false, ℕ, ◌≤◌, List, length, Option, None, Some, Err, inl, inr, sym, subst, ap, arith}
use Rattle.gib_types.specs.declared.table.Ty.{Ty}
use Rattle.gib_types.specs.Table.{Table}
use Rattle.gib_types.specs.Tree.{Datum}
use Rattle.gib_value.specs.Reading.{IsRefusedAt, IsTextOf}
use Rattle.gib_file.specs.declared.fault.HeadFault.{HeadFault}
use Rattle.gib_file.specs.declared.fault.HeadFault.TheVariants as header
use Rattle.gib_file.specs.declared.fault.PackFault.{PackFault}
use Rattle.gib_file.specs.declared.fault.PackFault.TheVariants as payload
use Rattle.gib_file.specs.Framed.{Content, File, HasMagic, IsFirstFault}
use Rattle.gib_file.specs.Describing.{Differs}
use Rattle.gib_file.specs.Reading.{read_all}
use Rattle.gib_file.proofs.DifferLemmas.{agrees_nowhere, one_place}
use Rattle.gib_file.proofs.HeadLemmas.{parts, no_file as no_fault, one_content, one_fault as one_header_fault}
use Rattle.gib_syntax.specs.Tree.{ProgramTree}
use Rattle.gib_syntax.specs.Declarations.{table_of_program, input_type, output_type}
use Rattle.gib_types.specs.Layout.{LaidOut}
use Rattle.gib_print.specs.declared.image_fault.ImageFault.{ImageFault as ReadFault}
use Rattle.gib_print.specs.declared.image_fault.ImageFault.TheVariants as reading
use Rattle.gib_print.specs.ImageReading.{IsRefused as IsRefusedImage}
use Rattle.gib_app.specs.Cores.{layouts_asked}
use Rattle.gib_app.specs.declared.input_fault.InputFault.{InputFault}
use Rattle.gib_app.specs.declared.input_fault.InputFault.TheVariants.{Long, Packed, Image, Text, Journal}
use Rattle.gib_app.specs.declared.input_fault.ImageFault.{ImageFault}
use Rattle.gib_app.specs.declared.input_fault.ImageFault.TheVariants as image
use Rattle.gib_app.specs.declared.input_fault.PackedFault.{PackedFault}
use Rattle.gib_app.specs.declared.input_fault.PackedFault.TheVariants.{Header, Types, Short, Tag, Truth, Trailing}
use Rattle.gib_app.specs.declared.inputs.Format.{Format}
use Rattle.gib_app.specs.declared.inputs.Format.TheVariants as format
use Rattle.gib_words.specs.declared.plan.Job.{Job}
use Rattle.gib_words.specs.declared.plan.Options.{Options}
use Rattle.gib_app.specs.declared.input_fault.JournalFault.{JournalFault}
use Rattle.gib_app.specs.declared.input_fault.JournalFault.TheVariants as journal
use Rattle.gib_app.specs.InputFaults.{IsTypesFault, IsPayloadFault, IsFileFault, IsInputFault, IsImageFault, IsJournalFault, IsReplayFault, IsShowFault, IsPackFault}
use Rattle.gib_words.specs.Plan.{Contents}
use Rattle.gib_app.specs.Replaying.{Happens, IsJournal, IsNotEnabled, IsNotEnded, OnJournal, code_for, journal_in, start_for}
use Rattle.gib_app.specs.Formats.{format_of, Accepts, Refuses}
use Rattle.gib_app.specs.Packing.{without_feed, IsPackable, IsPackedBy}
use Rattle.gib_app.specs.Running.{sourced, IsInput, IsShownValue}
use Rattle.gib_app.proofs.Doing.{AcceptsBy, RefusesBy}
use Rattle.gib_app.proofs.Doing.{shown_short}
use Rattle.gib_app.proofs.Signs.{signs_differ, formed_sign, fault_sign, no_packed_value, no_sign_value, ReadOrRefused, no_image_value}
use Rattle.gib_app.proofs.Refusals.{HeaderRefuses, TypesRefuse, PayloadRefuses, no_file}
use Rattle.gib_app.proofs.Packs.{PackLaws, long_or_few}
use Rattle.gib_app.proofs.Replays.{OneValue, both_on, start_alone}
use Rattle.gib_weave.specs.declared.task.WeaveFault.TheVariants as event
use Rattle.gib_locked.specs.declared.journal.Line.{Line}
use Rattle.gib_locked.specs.declared.settings.Settings.{Settings}
use Rattle.gib_locked.proofs.OneEnd.{not_answered, not_both, not_open, not_open_and_answered, one_number}
use Rattle.gib_locked.proofs.OneRefusal.{one_refusal as one_line}
use Rattle.gib_locked.proofs.ReadJournal.{never}

-- The fault of a packed file is that of its header, or of its payload.

abbrev of_payload : PackFault → PackedFault
of_payload payload.Memory = Short 0
of_payload (payload.Short place) = Short place
of_payload (payload.Tag place) = Tag place
of_payload (payload.Truth place) = Truth place
of_payload (payload.Trailing place) = Trailing place

data Stage (table : Table) (names : List (List ℕ)) (ty : Ty) (bytes : List ℕ) (f : PackedFault) : Type 0 where
  in_header : (fault : HeadFault) → IsFirstFault bytes fault → f ≡ Header fault → Stage table names ty bytes f
  in_types : (at : ℕ) → IsTypesFault table names ty bytes at → f ≡ Types at → Stage table names ty bytes f
  in_payload : (fault : PackFault) → IsPayloadFault table names ty bytes fault → f ≡ of_payload fault → Stage table names ty bytes f

stage : (table : Table) (names : List (List ℕ)) (ty : Ty) (bytes : List ℕ) (f : PackedFault) → IsFileFault table names ty bytes f → Stage table names ty bytes f
stage table names ty bytes (Header fault) h = in_header fault h refl
stage table names ty bytes (Types place) h = in_types place h refl
stage table names ty bytes (Short place) h = in_payload (payload.Short place) h refl
stage table names ty bytes (Tag place) h = in_payload (payload.Tag place) h refl
stage table names ty bytes (Truth place) h = in_payload (payload.Truth place) h refl
stage table names ty bytes (Trailing place) h = in_payload (payload.Trailing place) h refl

one_payload_fault : (table : Table) (names : List (List ℕ)) (ty : Ty) (bytes : List ℕ) (f g : PackFault) → IsPayloadFault table names ty bytes f → IsPayloadFault table names ty bytes g → f ≡ g
one_payload_fault table names ty bytes f g h k =
    let same : h.content ≡ k.content = one_content h.content k.content bytes h.framed k.framed in
    let both : Err f ≡ Err g = sym h.read ∙ ap (λ (c : Content). read_all table ty c.payload) same ∙ k.read in
    cc

one_types_fault : (table : Table) (names : List (List ℕ)) (ty : Ty) (bytes : List ℕ) (a b : ℕ) → IsTypesFault table names ty bytes a → IsTypesFault table names ty bytes b → a ≡ b
one_types_fault table names ty bytes a b h k =
    let D : Content → Type 0 = λ c. Differs table names ty c.description b in
    let same = one_content k.content h.content bytes k.framed h.framed in
    one_place table names ty h.content.description a b h.differs (subst D same k.differs)

types_or_payload : (table : Table) (names : List (List ℕ)) (ty : Ty) (bytes : List ℕ) (a : ℕ) (g : PackFault) → IsTypesFault table names ty bytes a → IsPayloadFault table names ty bytes g → ⊥
types_or_payload table names ty bytes a g h k =
    let D : Content → Type 0 = λ c. Differs table names ty c.description a in
    let same = one_content h.content k.content bytes h.framed k.framed in
    agrees_nowhere table names ty k.content.description a k.agrees (subst D same h.differs)

one_stage : (table : Table) (names : List (List ℕ)) (ty : Ty) (bytes : List ℕ) (f g : PackedFault) → Stage table names ty bytes f → Stage table names ty bytes g → f ≡ g
one_stage table names ty bytes f g (in_header a ra ea) (in_header b rb eb) = ea ∙ ap Header (one_header_fault bytes a b ra rb) ∙ sym eb
one_stage table names ty bytes f g (in_header a ra ea) (in_types b rb eb) = absurd (no_fault rb.content bytes a rb.framed ra)
one_stage table names ty bytes f g (in_header a ra ea) (in_payload b rb eb) = absurd (no_fault rb.content bytes a rb.framed ra)
one_stage table names ty bytes f g (in_types a ra ea) (in_header b rb eb) = absurd (no_fault ra.content bytes b ra.framed rb)
one_stage table names ty bytes f g (in_types a ra ea) (in_types b rb eb) = ea ∙ ap Types (one_types_fault table names ty bytes a b ra rb) ∙ sym eb
one_stage table names ty bytes f g (in_types a ra ea) (in_payload b rb eb) = absurd (types_or_payload table names ty bytes a b ra rb)
one_stage table names ty bytes f g (in_payload a ra ea) (in_header b rb eb) = absurd (no_fault ra.content bytes b ra.framed rb)
one_stage table names ty bytes f g (in_payload a ra ea) (in_types b rb eb) = absurd (types_or_payload table names ty bytes b a rb ra)
one_stage table names ty bytes f g (in_payload a ra ea) (in_payload b rb eb) = ea ∙ ap of_payload (one_payload_fault table names ty bytes a b ra rb) ∙ sym eb

one_file_fault : (table : Table) (names : List (List ℕ)) (ty : Ty) (bytes : List ℕ) (f g : PackedFault) → IsFileFault table names ty bytes f → IsFileFault table names ty bytes g → f ≡ g
one_file_fault table names ty bytes f g h k = one_stage table names ty bytes f g (stage table names ty bytes f h) (stage table names ty bytes g k)

-- What a fault of a file that is shown says: it is one of a packed file, which is not too long.
record IsShown (p : ProgramTree) (names : TextsView) (laid : LaidOut) (bytes : List ℕ) (fault : PackedFault) : Type 0 where
  file : IsFileFault (table_of_program p) names.long (input_type p) bytes fault
  short : length bytes ≤ 268435480
  shorter : HasMagic bytes → length bytes ≤ 16777216

shown : (p : ProgramTree) (names : TextsView) (laid : LaidOut) (bytes : List ℕ) (fault : PackedFault) → IsShowFault p names laid bytes (Packed fault) → IsShown p names laid bytes fault
shown p names laid bytes (Header header.Magic) h = record { file = h.1; short = h.0; shorter = λ m. absurd (h.1 m) }
shown p names laid bytes (Header (header.Version v)) h = record { file = h.1; short = let s = h.0 in omega (arith, s); shorter = λ m. h.0 }
shown p names laid bytes (Header header.Reserved) h = record { file = h.1; short = let s = h.0 in omega (arith, s); shorter = λ m. h.0 }
shown p names laid bytes (Header header.Length) h = record { file = h.1; short = let s = h.0 in omega (arith, s); shorter = λ m. h.0 }
shown p names laid bytes (Types place) h = record { file = h.1; short = let s = h.0 in omega (arith, s); shorter = λ m. h.0 }
shown p names laid bytes (Short place) h = record { file = h.1; short = let s = h.0 in omega (arith, s); shorter = λ m. h.0 }
shown p names laid bytes (Tag place) h = record { file = h.1; short = let s = h.0 in omega (arith, s); shorter = λ m. h.0 }
shown p names laid bytes (Truth place) h = record { file = h.1; short = let s = h.0 in omega (arith, s); shorter = λ m. h.0 }
shown p names laid bytes (Trailing place) h = record { file = h.1; short = let s = h.0 in omega (arith, s); shorter = λ m. h.0 }

-- The laws that these rest on, of one table and its names.

pub record Laws (table : Table) (names : List (List ℕ)) : Type 0 where
  pub headers : HeaderRefuses
  pub types : TypesRefuse
  pub payloads : PayloadRefuses
  pub values : OneValue
  pub packs : PackLaws table names
  pub no_text : (ty : Ty) (bytes : List ℕ) (place : ℕ) (v : Datum) → IsRefusedAt table names ty bytes place → IsTextOf table names ty v bytes → ⊥
  pub images : (laid : LaidOut) (type : Ty) (bytes : List ℕ) (f g : ReadFault) → IsRefusedImage laid type bytes f → IsRefusedImage laid type bytes g → f ≡ g
  pub no_image : ReadOrRefused
  pub one_place : (ty : Ty) (bytes : List ℕ) (a b : ℕ) → IsRefusedAt table names ty bytes a → IsRefusedAt table names ty bytes b → a ≡ b

module _ (p : ProgramTree) (names : TextsView) (laws : Laws (table_of_program p) names.short) (laid : LaidOut) (bytes : List ℕ) where
  one_packed : (f g : PackedFault) → IsFileFault (table_of_program p) names.long (input_type p) bytes f → IsFileFault (table_of_program p) names.long (input_type p) bytes g → Packed f ≡ Packed g
  one_packed f g h k = ap Packed (one_file_fault (table_of_program p) names.long (input_type p) bytes f g h k)

  one_input : (f g : InputFault) → IsInputFault p names bytes f → IsInputFault p names bytes g → f ≡ g
  one_input (Long a) (Long b) h k = ap Long (h.0 ∙ sym k.0)
  one_input (Long a) (Packed g) h k = let many = h.1 in let short = k.0 in absurd (omega (arith, many, short))
  one_input (Long a) (Text place) h k = absurd k
  one_input (Packed f) (Long b) h k = let many = k.1 in let short = h.0 in absurd (omega (arith, many, short))
  one_input (Packed f) (Packed g) h k = one_packed f g h.1 k.1
  one_input (Packed f) (Text place) h k = absurd k
  one_input (Long a) (Journal g) h k = absurd k
  one_input (Packed f) (Journal g) h k = absurd k
  one_input (Long a) (Image g) h k = absurd k
  one_input (Packed f) (Image g) h k = absurd k
  one_input (Image f) g h k = absurd h
  one_input (Text place) g h k = absurd h
  one_input (Journal f) g h k = absurd h

  long_or_shown : (most : ℕ) (f : PackedFault) → IsShowFault p names laid bytes (Long most) → IsShown p names laid bytes f → ⊥
  long_or_shown most f (inl h) s = let many = h.1 in let short = s.short in omega (arith, many, short)
  long_or_shown most f (inr h) s = let many = h.1 in let short = s.shorter h.3 in omega (arith, many, short)

  one_long : (a b : ℕ) → IsShowFault p names laid bytes (Long a) → IsShowFault p names laid bytes (Long b) → a ≡ b
  one_long a b (inl h) (inl k) = h.0 ∙ sym k.0
  one_long a b (inl h) (inr k) = let many = h.1 in let short = k.2 in absurd (omega (arith, many, short))
  one_long a b (inr h) (inl k) = let many = k.1 in let short = h.2 in absurd (omega (arith, many, short))
  one_long a b (inr h) (inr k) = h.0 ∙ sym k.0

  long_or_image : (most : ℕ) (g : ImageFault) → IsShowFault p names laid bytes (Long most) → IsShowFault p names laid bytes (Image g) → ⊥
  long_or_image most g (inl h) k = let many = h.1 in let short = k.0 in omega (arith, many, short)
  long_or_image most g (inr h) k = signs_differ bytes h.3 (fault_sign p laid bytes g k.1)

  packed_or_image : (f : PackedFault) (g : ImageFault) → IsShowFault p names laid bytes (Packed f) → IsShowFault p names laid bytes (Image g) → ⊥
  packed_or_image (Header header.Magic) g h k = h.2 (fault_sign p laid bytes g k.1)
  packed_or_image (Header (header.Version v)) g h k = signs_differ bytes h.1.0 (fault_sign p laid bytes g k.1)
  packed_or_image (Header header.Reserved) g h k = signs_differ bytes h.1.0 (fault_sign p laid bytes g k.1)
  packed_or_image (Header header.Length) g h k = signs_differ bytes h.1.0 (fault_sign p laid bytes g k.1)
  packed_or_image (Types place) g h k = signs_differ bytes (parts h.1.content bytes h.1.framed).magic_is (fault_sign p laid bytes g k.1)
  packed_or_image (Short place) g h k = signs_differ bytes (parts h.1.content bytes h.1.framed).magic_is (fault_sign p laid bytes g k.1)
  packed_or_image (Tag place) g h k = signs_differ bytes (parts h.1.content bytes h.1.framed).magic_is (fault_sign p laid bytes g k.1)
  packed_or_image (Truth place) g h k = signs_differ bytes (parts h.1.content bytes h.1.framed).magic_is (fault_sign p laid bytes g k.1)
  packed_or_image (Trailing place) g h k = signs_differ bytes (parts h.1.content bytes h.1.framed).magic_is (fault_sign p laid bytes g k.1)

  one_image : (f g : ImageFault) → IsImageFault p laid bytes f → IsImageFault p laid bytes g → f ≡ g
  one_image image.Header image.Header h k = refl
  one_image image.Header (image.Item b) h k = absurd (h.1 k.formed)
  one_image image.Header image.Long h k = absurd (h.1 k.formed)
  one_image (image.Item a) image.Header h k = absurd (k.1 h.formed)
  one_image (image.Item a) (image.Item b) h k = let same = laws.images laid (output_type p) bytes (reading.Bad a) (reading.Bad b) h k in cc
  one_image (image.Item a) image.Long h k = let same = laws.images laid (output_type p) bytes (reading.Bad a) reading.Long h k in cc
  one_image image.Long image.Header h k = absurd (k.1 h.formed)
  one_image image.Long (image.Item b) h k = let same = laws.images laid (output_type p) bytes reading.Long (reading.Bad b) h k in cc
  one_image image.Long image.Long h k = refl

  one_show : (f g : InputFault) → IsShowFault p names laid bytes f → IsShowFault p names laid bytes g → f ≡ g
  one_show (Long a) (Long b) h k = ap Long (one_long a b h k)
  one_show (Long a) (Packed g) h k = absurd (long_or_shown a g h (shown p names laid bytes g k))
  one_show (Long a) (Text place) h k = absurd k
  one_show (Packed f) (Long b) h k = absurd (long_or_shown b f k (shown p names laid bytes f h))
  one_show (Packed f) (Packed g) h k = one_packed f g (shown p names laid bytes f h).file (shown p names laid bytes g k).file
  one_show (Packed f) (Text place) h k = absurd k
  one_show (Long a) (Image g) h k = absurd (long_or_image a g h k)
  one_show (Packed f) (Image g) h k = absurd (packed_or_image f g h k)
  one_show (Image f) (Long b) h k = absurd (long_or_image b f k h)
  one_show (Image f) (Packed g) h k = absurd (packed_or_image g f k h)
  one_show (Image f) (Image g) h k = ap Image (one_image f g h.1 k.1)
  one_show (Image f) (Text place) h k = absurd k
  one_show (Long a) (Journal g) h k = absurd k
  one_show (Packed f) (Journal g) h k = absurd k
  one_show (Image f) (Journal g) h k = absurd k
  one_show (Text place) g h k = absurd h
  one_show (Journal f) g h k = absurd h

  none : (f : PackedFault) → IsFileFault (table_of_program p) names.long (input_type p) bytes f → (v : Datum) → File (table_of_program p) names.long (input_type p) v bytes → ⊥
  none f h = no_file laws.headers laws.types laws.payloads (table_of_program p) names.long (input_type p) bytes f h

  -- What is packed is refused for one fault.

  long_or_unpacked : (r x : Bool) (most : ℕ) (f : PackedFault) → IsPackFault r x p names bytes (Long most) → IsPackFault r x p names bytes (Packed f) → ⊥
  long_or_unpacked r x most f (e, inl many) k = let short = k.1.0 in omega (arith, many, short)
  long_or_unpacked r x most f (e, inr h) k = let V : Bool → Type 0 = λ b. IsPackable b p names h.1.value bytes in none f k.1.1 h.1.value (subst V k.0 h.1.packable)

  long_or_text : (r x : Bool) (most place : ℕ) → IsPackFault r x p names bytes (Long most) → IsPackFault r x p names bytes (Text place) → ⊥
  long_or_text r x most place (e, inl many) k = let short = k.1 in omega (arith, many, short)
  long_or_text r x most place (e, inr h) k = let V : Bool → Type 0 = λ b. IsPackable b p names h.1.value bytes in laws.no_text (input_type p) (without_feed bytes) place h.1.value k.2 (subst V k.0 h.1.packable)

  packed_or_text : (r x : Bool) (f : PackedFault) (place : ℕ) → IsPackFault r x p names bytes (Packed f) → IsPackFault r x p names bytes (Text place) → ⊥
  packed_or_text r x f place h k = let both : ◌≡◌ {A = Bool} true false = sym h.0 ∙ k.0 in cc

  one_pack : (r x : Bool) (f g : InputFault) → IsPackFault r x p names bytes f → IsPackFault r x p names bytes g → f ≡ g
  one_pack r x (Long a) (Long b) h k = ap Long (h.0 ∙ sym k.0)
  one_pack r x (Long a) (Packed g) h k = absurd (long_or_unpacked r x a g h k)
  one_pack r x (Long a) (Text place) h k = absurd (long_or_text r x a place h k)
  one_pack r x (Long a) (Image g) h k = absurd k
  one_pack r x (Long a) (Journal g) h k = absurd k
  one_pack r x (Packed f) (Long b) h k = absurd (long_or_unpacked r x b f k h)
  one_pack r x (Packed f) (Packed g) h k = one_packed f g h.1.1 k.1.1
  one_pack r x (Packed f) (Text place) h k = absurd (packed_or_text r x f place h k)
  one_pack r x (Packed f) (Image g) h k = absurd k
  one_pack r x (Packed f) (Journal g) h k = absurd k
  one_pack r x (Text place) (Long b) h k = absurd (long_or_text r x b place k h)
  one_pack r x (Text place) (Packed g) h k = absurd (packed_or_text r x g place k h)
  one_pack r x (Text a) (Text b) h k = ap Text (laws.one_place (input_type p) (without_feed bytes) a b h.2 k.2)
  one_pack r x (Text place) (Image g) h k = absurd k
  one_pack r x (Text place) (Journal g) h k = absurd k
  one_pack r x (Image f) g h k = absurd h
  one_pack r x (Journal f) g h k = absurd h

  -- A file that is refused is not accepted.

  not_input : (f : InputFault) (v : Datum) → IsInputFault p names bytes f → IsInput p names v bytes → ⊥
  not_input (Long most) v h is = let many = h.1 in let short = is.short in omega (arith, many, short)
  not_input (Packed f) v h is = no_file laws.headers laws.types laws.payloads (table_of_program p) names.long (input_type p) bytes f h.1 v is.file
  not_input (Image f) v h is = h
  not_input (Text place) v h is = h
  not_input (Journal f) v h is = h

  not_long : (most : ℕ) (v : Datum) → IsShowFault p names laid bytes (Long most) → IsShownValue p names laid v bytes → ⊥
  not_long most v (inl h) is = let many = h.1 in let short = shown_short p laid v bytes is in omega (arith, many, short)
  not_long most v (inr h) (inl is) = let many = h.1 in let short = is.short in omega (arith, many, short)
  not_long most v (inr h) (inr read) = signs_differ bytes h.3 (formed_sign (output_type p) bytes read.image.formed)

  not_packed : (f : PackedFault) (v : Datum) → IsShowFault p names laid bytes (Packed f) → IsShownValue p names laid v bytes → ⊥
  not_packed (Header header.Magic) v h is = no_sign_value p laid bytes h.1 h.2 (v, is)
  not_packed (Header (header.Version n)) v h is = no_packed_value p laid bytes h.1.0 (none (Header (header.Version n)) h.1) (v, is)
  not_packed (Header header.Reserved) v h is = no_packed_value p laid bytes h.1.0 (none (Header header.Reserved) h.1) (v, is)
  not_packed (Header header.Length) v h is = no_packed_value p laid bytes h.1.0 (none (Header header.Length) h.1) (v, is)
  not_packed (Types place) v h is = no_packed_value p laid bytes (parts h.1.content bytes h.1.framed).magic_is (none (Types place) h.1) (v, is)
  not_packed (Short place) v h is = no_packed_value p laid bytes (parts h.1.content bytes h.1.framed).magic_is (none (Short place) h.1) (v, is)
  not_packed (Tag place) v h is = no_packed_value p laid bytes (parts h.1.content bytes h.1.framed).magic_is (none (Tag place) h.1) (v, is)
  not_packed (Truth place) v h is = no_packed_value p laid bytes (parts h.1.content bytes h.1.framed).magic_is (none (Truth place) h.1) (v, is)
  not_packed (Trailing place) v h is = no_packed_value p laid bytes (parts h.1.content bytes h.1.framed).magic_is (none (Trailing place) h.1) (v, is)

  not_shown : (f : InputFault) (v : Datum) → IsShowFault p names laid bytes f → IsShownValue p names laid v bytes → ⊥
  not_shown (Long most) v h is = not_long most v h is
  not_shown (Packed f) v h is = not_packed f v h is
  not_shown (Image f) v h is = no_image_value laws.no_image p names laid bytes f h.1 v is
  not_shown (Text place) v h is = h
  not_shown (Journal f) v h is = h

  not_packable : (r x : Bool) (f : InputFault) (file : List ℕ) → IsPackFault r x p names bytes f → IsPackedBy r x p names bytes file → ⊥
  not_packable r x (Long most) file (e, inl many) is = let short = is.short in omega (arith, many, short)
  not_packable r x (Long most) file (e, inr h) is = long_or_few p names laws.packs bytes r x file h.1 is
  not_packable r x (Packed f) file h is = let V : Bool → Type 0 = λ b. IsPackable b p names is.value bytes in none f h.1.1 is.value (subst V h.0 is.packable)
  not_packable r x (Image f) file h is = h
  not_packable r x (Journal f) file h is = h
  not_packable r x (Text place) file h is = let V : Bool → Type 0 = λ b. IsPackable b p names is.value bytes in laws.no_text (input_type p) (without_feed bytes) place is.value h.2 (subst V h.0 is.packable)

-- A packed file and a journal.

abbrev NotEnabled : ProgramTree → ℕ → Datum → Settings → List Line → Type 0
NotEnabled p n v settings lines = IsNotEnabled p v settings lines n

module _ (p : ProgramTree) (names : TextsView) (laws : Laws (table_of_program p) names.short) (laid : LaidOut) (input bytes : List ℕ) where
  no_packed : (f : InputFault) (v : Datum) → IsInputFault p names input f → IsInput p names v input → ⊥
  no_packed f v h is = not_input p names laws laid input f v h is

  -- a journal with a fault has no more bytes than are read
  journal_short : (v : Datum) (f : JournalFault) → IsJournalFault p v bytes f → length bytes ≤ 16777216
  journal_short v (journal.Line n) h = h.0
  journal_short v (journal.NotEnabled n) h = h.2.short
  journal_short v journal.NotEnded h = h.2.short

  on_journal : (P : Datum → Settings → List Line → Type 0) (v : Datum) → IsInput p names v input → ((settings : Settings) × (lines : List Line) × IsJournal settings lines bytes × P v settings lines) → OnJournal p names input bytes P
  on_journal P v is h = record { value = v; settings = h.0; lines = h.1; is_input = is; is_journal = h.2; holds = h.3 }

  one_place' : (n m : ℕ) → OnJournal p names input bytes (NotEnabled p n) → OnJournal p names input bytes (NotEnabled p m) → n ≡ m
  one_place' n m h k =
      let both = both_on laws.values p input bytes (NotEnabled p n) (NotEnabled p m) h k in
      one_number (code_for p both.1) (start_for p both.1 both.0) both.2 (start_alone p both.1 both.0) n m event.NotNow event.NotNow tt tt both.3.1 both.4.1

  enabled_or_ended : (n : ℕ) → OnJournal p names input bytes (NotEnabled p n) → OnJournal p names input bytes (IsNotEnded p) → ⊥
  enabled_or_ended n h k =
      let both = both_on laws.values p input bytes (NotEnabled p n) (IsNotEnded p) h k in
      not_open (code_for p both.1) (start_for p both.1 both.0) both.2 (start_alone p both.1 both.0) n event.NotNow tt both.3.1 both.4.1

  one_journal : (v w : Datum) → IsInput p names v input → IsInput p names w input → (f g : JournalFault) → IsJournalFault p v bytes f → IsJournalFault p w bytes g → f ≡ g
  one_journal v w is also (journal.Line n) (journal.Line m) h k = ap journal.Line (one_line bytes n m h.1 k.1)
  one_journal v w is also (journal.Line n) (journal.NotEnabled m) h k = absurd (never bytes n k.0 k.1 k.2.are k.2.text_is h.1)
  one_journal v w is also (journal.Line n) journal.NotEnded h k = absurd (never bytes n k.0 k.1 k.2.are k.2.text_is h.1)
  one_journal v w is also (journal.NotEnabled n) (journal.Line m) h k = absurd (never bytes m h.0 h.1 h.2.are h.2.text_is k.1)
  one_journal v w is also (journal.NotEnabled n) (journal.NotEnabled m) h k = ap journal.NotEnabled (one_place' n m (on_journal (NotEnabled p n) v is h) (on_journal (NotEnabled p m) w also k))
  one_journal v w is also (journal.NotEnabled n) journal.NotEnded h k = absurd (enabled_or_ended n (on_journal (NotEnabled p n) v is h) (on_journal (IsNotEnded p) w also k))
  one_journal v w is also journal.NotEnded (journal.Line m) h k = absurd (never bytes m h.0 h.1 h.2.are h.2.text_is k.1)
  one_journal v w is also journal.NotEnded (journal.NotEnabled m) h k = absurd (enabled_or_ended m (on_journal (NotEnabled p m) w also k) (on_journal (IsNotEnded p) v is h))
  one_journal v w is also journal.NotEnded journal.NotEnded h k = refl

  long_or_packed : (a : ℕ) (f : PackedFault) → IsReplayFault p names input bytes (Long a) → IsReplayFault p names input bytes (Packed f) → ⊥
  long_or_packed a f (inl h) k = let many = h.1 in let short = k.0 in omega (arith, many, short)
  long_or_packed a f (inr h) k = no_packed (Packed f) h.0.0 k h.0.1

  long_or_journal : (a : ℕ) (f : JournalFault) → IsReplayFault p names input bytes (Long a) → IsReplayFault p names input bytes (Journal f) → ⊥
  long_or_journal a f (inl h) k = no_packed (Long a) k.0 h k.1
  long_or_journal a f (inr h) k = let many = h.2 in let short = journal_short k.0 f k.2 in omega (arith, many, short)

  both_long : (a b : ℕ) → IsReplayFault p names input bytes (Long a) → IsReplayFault p names input bytes (Long b) → a ≡ b
  both_long a b (inl h) (inl k) = h.0 ∙ sym k.0
  both_long a b (inl h) (inr k) = absurd (no_packed (Long a) k.0.0 h k.0.1)
  both_long a b (inr h) (inl k) = absurd (no_packed (Long b) h.0.0 k h.0.1)
  both_long a b (inr h) (inr k) = h.1 ∙ sym k.1

  one_replay : (f g : InputFault) → IsReplayFault p names input bytes f → IsReplayFault p names input bytes g → f ≡ g
  one_replay (Long a) (Long b) h k = ap Long (both_long a b h k)
  one_replay (Long a) (Packed g) h k = absurd (long_or_packed a g h k)
  one_replay (Long a) (Image g) h k = absurd k
  one_replay (Long a) (Text place) h k = absurd k
  one_replay (Long a) (Journal g) h k = absurd (long_or_journal a g h k)
  one_replay (Packed f) (Long b) h k = absurd (long_or_packed b f k h)
  one_replay (Packed f) (Packed g) h k = one_packed p names laws laid input f g h.1 k.1
  one_replay (Packed f) (Image g) h k = absurd k
  one_replay (Packed f) (Text place) h k = absurd k
  one_replay (Packed f) (Journal g) h k = absurd (no_packed (Packed f) k.0 h k.1)
  one_replay (Image f) g h k = absurd h
  one_replay (Text place) g h k = absurd h
  one_replay (Journal f) (Long b) h k = absurd (long_or_journal b f k h)
  one_replay (Journal f) (Packed g) h k = absurd (no_packed (Packed g) h.0 k h.1)
  one_replay (Journal f) (Image g) h k = absurd k
  one_replay (Journal f) (Text place) h k = absurd k
  one_replay (Journal f) (Journal g) h k = ap Journal (one_journal h.0 k.0 h.1 k.1 f g h.2 k.2)

  -- Where events lead to an end, or chunks run out, no event is refused, and the root does not go on.

  enabled_or_happens : (n : ℕ) (v : Datum) (settings : Settings) (lines : List Line) → IsNotEnabled p v settings lines n → Happens p v settings lines → ⊥
  enabled_or_happens n v settings lines h (inl e) = not_answered (code_for p settings) (start_for p settings v) lines (start_alone p settings v) n event.NotNow tt h.1 e.0 e.1 e.2.answered
  enabled_or_happens n v settings lines h (inr (inl no')) = no' h.0
  enabled_or_happens n v settings lines h (inr (inr k)) = not_both (code_for p settings) (start_for p settings v) lines (start_alone p settings v) n k.1 h.1 k.2

  ended_or_happens : (v : Datum) (settings : Settings) (lines : List Line) → IsNotEnded p v settings lines → Happens p v settings lines → ⊥
  ended_or_happens v settings lines h (inl e) = not_open_and_answered (code_for p settings) (start_for p settings v) lines (start_alone p settings v) h.1 e.0 e.1 e.2.answered
  ended_or_happens v settings lines h (inr (inl no')) = no' h.0
  ended_or_happens v settings lines h (inr (inr k)) = not_open (code_for p settings) (start_for p settings v) lines (start_alone p settings v) k.1 event.Full tt k.2 h.1

  no_journal : (v : Datum) (f : JournalFault) → IsInput p names v input → IsJournalFault p v bytes f → OnJournal p names input bytes (Happens p) → ⊥
  no_journal v (journal.Line n) is h k = never bytes n k.settings k.lines k.is_journal.are k.is_journal.text_is h.1
  no_journal v (journal.NotEnabled n) is h k =
      let both = both_on laws.values p input bytes (NotEnabled p n) (Happens p) (on_journal (NotEnabled p n) v is h) k in enabled_or_happens n both.0 both.1 both.2 both.3 both.4
  no_journal v journal.NotEnded is h k =
      let both = both_on laws.values p input bytes (IsNotEnded p) (Happens p) (on_journal (IsNotEnded p) v is h) k in ended_or_happens both.0 both.1 both.2 both.3 both.4

  not_replayed : (f : InputFault) → IsReplayFault p names input bytes f → OnJournal p names input bytes (Happens p) → ⊥
  not_replayed (Long most) (inl h) k = no_packed (Long most) k.value h k.is_input
  not_replayed (Long most) (inr h) k = let many = h.2 in let short = k.is_journal.short in omega (arith, many, short)
  not_replayed (Packed f) h k = no_packed (Packed f) k.value h k.is_input
  not_replayed (Image f) h k = h
  not_replayed (Text place) h k = h
  not_replayed (Journal f) h k = no_journal h.0 f h.1 h.2 k

-- The inputs of a job.
module _ (p : ProgramTree) (names : TextsView) (laws : Laws (table_of_program p) names.short) (options : Options) (given : Contents) where
  refusal_by : (o : Option Format) (f g : InputFault) → RefusesBy o options (sourced p) names given f → RefusesBy o options (sourced p) names given g → f ≡ g
  refusal_by None f g h k = absurd h
  refusal_by (Some format.Packed) f g h k = one_input p names laws (layouts_asked options p) given.second f g h k
  refusal_by (Some format.Packable) f g h k = one_pack p names laws (layouts_asked options p) given.second options.repacks options.first_version f g h k
  refusal_by (Some format.Shown) f g h k = one_show p names laws (layouts_asked options p) given.second f g h k
  refusal_by (Some format.Journaled) f g h k = one_replay p names laws (layouts_asked options p) given.second (journal_in given) f g h k

  pub one_refusal : (job : Job) (f g : InputFault) → Refuses job options (sourced p) names given f → Refuses job options (sourced p) names given g → f ≡ g
  one_refusal job f g h k = refusal_by (format_of job) f g h k

  accepted_by : (o : Option Format) (f : InputFault) → RefusesBy o options (sourced p) names given f → AcceptsBy o options (sourced p) names given → ⊥
  accepted_by None f h a = h
  accepted_by (Some format.Packed) f h a = not_input p names laws (layouts_asked options p) given.second f a.0 h a.1
  accepted_by (Some format.Packable) f h a = not_packable p names laws (layouts_asked options p) given.second options.repacks options.first_version f a.0 h a.1
  accepted_by (Some format.Shown) f h a = not_shown p names laws (layouts_asked options p) given.second f a.0 h a.1
  accepted_by (Some format.Journaled) f h a = not_replayed p names laws (layouts_asked options p) given.second (journal_in given) f h a

  pub not_accepted : (job : Job) (f : InputFault) → Refuses job options (sourced p) names given f → Accepts job options (sourced p) names given → ⊥
  not_accepted job f h a = accepted_by (format_of job) f h a
