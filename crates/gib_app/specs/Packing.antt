-- What is packed, and the packed file that is made of it.
use Rattle.gib_base.specs.Texts.{TextsView}
use Rattle.std.specs.Prelude.{ℕ, ◌≤◌, ◌-◌, ◌==◌, Bool, true, false, if◌then◌else◌, List, length, take, slice_get, Option, Some, None}
use Rattle.gib_types.specs.Tree.{Datum}
use Rattle.gib_file.specs.Framed.{File, File1, File2}
use Rattle.gib_value.specs.Reading.{IsTextOf}
use Rattle.gib_syntax.specs.Tree.{ProgramTree}
use Rattle.gib_syntax.specs.Declarations.{table_of_program, input_type}

-- A line feed.
abbrev pub is_feed : Option ℕ → Bool
is_feed None = false
is_feed (Some b) = b == 10

-- The bytes without the line feed at their end, where one stands there.
abbrev pub without_feed : List ℕ → List ℕ
without_feed bytes = if is_feed (slice_get bytes (length bytes - 1)) then take (length bytes - 1) bytes else bytes

-- The bytes are the text of this value, which is of the type of main's parameter; a line feed may stand at their end.
abbrev pub IsTextLine : ProgramTree → TextsView → Datum → List ℕ → Type 0
IsTextLine p names v bytes = IsTextOf (table_of_program p) names.short (input_type p) v (without_feed bytes)

-- The bytes are what is packed of this value: its text; or, where it is packed again, its packed file of either version.
abbrev pub IsPackable : (repacks : Bool) → ProgramTree → TextsView → Datum → List ℕ → Type 0
IsPackable false p names v bytes = IsTextLine p names v bytes
IsPackable true p names v bytes = File (table_of_program p) names.long (input_type p) v bytes

-- The packed file that is made of a value: of version 1, or of version 2.
abbrev pub IsFileOf : (first : Bool) → ProgramTree → TextsView → Datum → List ℕ → Type 0
IsFileOf true p names v file = File1 (table_of_program p) (input_type p) v file
IsFileOf false p names v file = File2 (table_of_program p) names.long (input_type p) v file

-- The bytes, at most 16,777,216, are what is packed of a value of which this file is made, and it has at most as many.
pub record IsPackedBy (repacks first : Bool) (p : ProgramTree) (names : TextsView) (bytes file : List ℕ) : Type 0 where
  pub value : Datum
  pub short : length bytes ≤ 16777216
  pub packable : IsPackable repacks p names value bytes
  pub is_file : IsFileOf first p names value file
  pub few : length file ≤ 16777216
