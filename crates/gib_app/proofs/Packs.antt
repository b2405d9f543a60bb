-- What is packed is one value, of which one file of each version is made.
use Rattle.gib_base.specs.Texts.{TextsView}
use Rattle.std.proofs.Common.{◌≡◌, ◌∙◌, refl, inr, Bool, true, false, ℕ, ◌≤◌, ◌<◌, List, length, sym, subst, ap, arith}
use Rattle.gib_types.specs.declared.table.Ty.{Ty}
use Rattle.gib_types.specs.Table.{Table}
use Rattle.gib_types.specs.Tree.{Datum, HasType}
use Rattle.gib_file.specs.Framed.{File, File1, File2}
use Rattle.gib_file.proofs.FileLaws.{inside}
use Rattle.gib_value.specs.Text.{text}
use Rattle.gib_value.specs.Reading.{IsRefusedAt}
use Rattle.gib_syntax.specs.Tree.{ProgramTree}
use Rattle.gib_syntax.specs.Declarations.{table_of_program, input_type}
use Rattle.gib_app.specs.declared.input_fault.InputFault.TheVariants as input
use Rattle.gib_app.specs.declared.stop.Stop.{Stop}
use Rattle.gib_app.specs.declared.stop.Stop.TheVariants.{Input}
use Rattle.gib_app.specs.InputFaults.{HasLongFile}
use Rattle.gib_app.specs.Packing.{without_feed, IsTextLine, IsPackable, IsFileOf, IsPackedBy}
use Rattle.gib_app.specs.Stops.{IsPackedStop, IsPackStop}
use Rattle.gib_app.proofs.Replays.{OneValue}
use Rattle.gib_app.proofs.StopMaps.{never, only_packed, stops_map}

-- The laws that these rest on, of one table and its names.
pub record PackLaws (table : Table) (names : List (List ℕ)) : Type 0 where
  pub firsts : (t : Table) (ty : Ty) (v : Datum) (a b : List ℕ) → File1 t ty v a → File1 t ty v b → a ≡ b
  pub seconds : (t : Table) (ns : List (List ℕ)) (ty : Ty) (v : Datum) (a b : List ℕ) → File2 t ns ty v a → File2 t ns ty v b → a ≡ b
  pub values : OneValue
  pub texts : (ty : Ty) (v w : Datum) → HasType table v ty → HasType table w ty → text table names v ≡ text table names w → v ≡ w

module _ (p : ProgramTree) (names : TextsView) (laws : PackLaws (table_of_program p) names.short) (bytes : List ℕ) where
  one_packable : (repacks : Bool) (v w : Datum) → IsPackable repacks p names v bytes → IsPackable repacks p names w bytes → v ≡ w
  one_packable false v w h k = laws.texts (input_type p) v w h.typed k.typed (sym h.is ∙ k.is)
  one_packable true v w h k = laws.values (table_of_program p) names.long (input_type p) v w bytes h k

  one_file : (first : Bool) (v : Datum) (a b : List ℕ) → IsFileOf first p names v a → IsFileOf first p names v b → a ≡ b
  one_file true v a b h k = laws.firsts (table_of_program p) (input_type p) v a b h k
  one_file false v a b h k = laws.seconds (table_of_program p) names.long (input_type p) v a b h k

  -- The file that is made has too many bytes, or it has not.
  pub long_or_few : (repacks first : Bool) (file : List ℕ) → HasLongFile repacks first p names bytes → IsPackedBy repacks first p names bytes file → ⊥
  long_or_few repacks first file long is =
      let same : long.value ≡ is.value = one_packable repacks long.value is.value long.packable is.packable in
      let F : Datum → Type 0 = λ v. IsFileOf first p names v long.file in
      let one = ap length (one_file first is.value long.file file (subst F same long.is_file) is.is_file) in
      let many = long.many in
      let few = is.few in
      omega (arith, one, many, few)

-- The value of what is packed is of the type of main's parameter.
pub packable_typed : (repacks : Bool) (p : ProgramTree) (names : TextsView) (v : Datum) (bytes : List ℕ) → IsPackable repacks p names v bytes → HasType (table_of_program p) v (input_type p)
packable_typed false p names v bytes h = h.typed
packable_typed true p names v bytes h = (inside (table_of_program p) names.long (input_type p) v bytes h).typed

-- What is packed, and what is made, by the flags.
pub packable_text : (repacks : Bool) (p : ProgramTree) (names : TextsView) (v : Datum) (bytes : List ℕ) → repacks ≡ false → IsTextLine p names v bytes → IsPackable repacks p names v bytes
packable_text false p names v bytes e h = h
packable_text true p names v bytes e h = let f : ◌≡◌ {A = Bool} true false = e in absurd cc

pub packable_file : (repacks : Bool) (p : ProgramTree) (names : TextsView) (v : Datum) (bytes : List ℕ) → repacks ≡ true → File (table_of_program p) names.long (input_type p) v bytes → IsPackable repacks p names v bytes
packable_file true p names v bytes e h = h
packable_file false p names v bytes e h = let f : ◌≡◌ {A = Bool} false true = e in absurd cc

pub first_made : (first : Bool) (p : ProgramTree) (names : TextsView) (v : Datum) (file : List ℕ) → first ≡ true → File1 (table_of_program p) (input_type p) v file → IsFileOf first p names v file
first_made true p names v file e h = h
first_made false p names v file e h = let f : ◌≡◌ {A = Bool} false true = e in absurd cc

pub second_made : (first : Bool) (p : ProgramTree) (names : TextsView) (v : Datum) (file : List ℕ) → first ≡ false → File2 (table_of_program p) names.long (input_type p) v file → IsFileOf first p names v file
second_made false p names v file e h = h
second_made true p names v file e h = let f : ◌≡◌ {A = Bool} true false = e in absurd cc

-- Why no file is made: the packed file is refused, or the text is, or the file that would be made has too many bytes.
module _ (repacks first : Bool) (p : ProgramTree) (names : TextsView) (bytes : List ℕ) (short : length bytes ≤ 16777216) where
  pub packed_stop_packs : repacks ≡ true → (stop : Stop) → IsPackedStop (table_of_program p) names.long (input_type p) bytes stop → IsPackStop repacks first p names bytes stop
  packed_stop_packs e stop h =
      stops_map _ _ _ _ _ _ _ _ _ _ stop h (never _) (never _)
      (only_packed _ _ (λ fault c. let V : Datum → Bool → Type 0 = λ v b. IsPackable b p names v bytes in ((e, (short, c.0)), λ a. c.1 a.1.value (subst (V a.1.value) e a.1.packable)))) (never _) (never _)

  pub text_stop_packs : repacks ≡ false → (place : ℕ) → IsRefusedAt (table_of_program p) names.short (input_type p) (without_feed bytes) place → ((v : Datum) → IsTextLine p names v bytes → ⊥) → IsPackStop repacks first p names bytes (Input (input.Text place))
  text_stop_packs e place refused none' = let V : Datum → Bool → Type 0 = λ v b. IsPackable b p names v bytes in ((e, short, refused), λ a. none' a.1.value (subst (V a.1.value) e a.1.packable))

  pub long_stop_packs : PackLaws (table_of_program p) names.short → (v : Datum) (file : List ℕ) → IsPackable repacks p names v bytes → IsFileOf first p names v file → 16777216 < length file → IsPackStop repacks first p names bytes (Input (input.Long 16777216))
  long_stop_packs laws v file packable is_file many =
      let long : HasLongFile repacks first p names bytes = record { value = v; file = file; packable = packable; is_file = is_file; many = many } in
      ((refl, inr (short, long)), λ a. long_or_few p names laws bytes repacks first a.0 long a.1)
