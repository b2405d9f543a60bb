-- What a call of `run` promises, in the fewest words: a reader may begin here.
use Rattle.std.specs.Prelude.{◌≡◌, ◌⊎◌, ⊤, ◌+◌, ◌≤◌, ◌<◌, ℕ, List, [], ◌∷◌, ◌++◌, length, Option, None, Some, Ok}
use Rattle.gib_base.specs.Lexed.{Lexed}
use Rattle.gib_types.specs.Tree.{Datum, HasType}
use Rattle.gib_file.specs.Framed.{File, File2}
use Rattle.gib_file.specs.Describing.{Describes}
use Rattle.gib_file.specs.Packed.{packed}
use Rattle.gib_syntax.specs.Tree.{ProgramTree}
use Rattle.gib_syntax.specs.Source.{Spells}
use Rattle.gib_syntax.specs.Declarations.{table_of_program, input_type, output_type}
use Rattle.gib_syntax.specs.GenericTree.{GenericProgramTree, rows_of}
use Rattle.gib_syntax.specs.GenericTyping.{IsTypedGeneric}
use Rattle.gib_syntax.specs.GenericMeaning.{run_generic}
use Rattle.gib_syntax.specs.Meaning.{Reason, Deep, Outcome, Gives, Stops}
use Rattle.gib_mono.specs.Copied.{shown}
use Rattle.gib_mono.specs.Walk.{Copy, copies_of, copied_program, base_of}
use Rattle.gib_mono.specs.Naming.{entries, naming_of}
use Rattle.gib_mono.specs.Showing.{long_texts}
use Rattle.gib_edge.specs.Causes.{Rose}
use Rattle.gib_edge.specs.Views.{Has, ShelfView, SinkView}
use Rattle.gib_core.specs.Cost.{run_cost}
use Rattle.gib_core.specs.Tight.{Tight}
use Rattle.gib_words.specs.declared.plan.Job.TheVariants.{Run}
use Rattle.gib_words.specs.declared.plan.Options.{Options}
use Rattle.gib_app.specs.declared.status.Status.{Status}
use Rattle.gib_app.specs.declared.status.Status.TheVariants as status
use Rattle.gib_words.specs.Plan.{Document, Plan, bytes_in}
use Rattle.gib_words.specs.Words.{asked}
use Rattle.gib_print.specs.Image.{IsImageOf, chunk_count}
use Rattle.gib_app.specs.Cores.{core_asked, layouts_asked}
use Rattle.gib_app.specs.Causes.{IsUnread}
use Rattle.gib_app.specs.GenericText.{generic_text}

-- To run the program of one document on the packed value of another, and to write the image of region memory under a name.
abbrev pub run_plan : Document → Document → Option (List ℕ) → Options → Plan
run_plan program packed image options = record { first = []; source = program; inputs = packed ∷ []; target = image; pack = None; job = Run; options = options }

-- The words ask for that, within a depth of calls and a number of chunks. These are the bytes of both documents, and
-- those that `out` has taken so far. A document is a file by its name; where there are no words, both are built in. An image may
-- be asked for.
pub record IsRun (words : List (List ℕ)) (files : ShelfView) (out : SinkView) (source input : List ℕ) (options : Options) (front : List ℕ) : Type 0 where
  pub program : Document
  pub packed : Document
  pub image : Option (List ℕ)
  pub asks : asked words ≡ Some (run_plan program packed image options)
  pub source_is : bytes_in files.kept program ≡ Has source
  pub input_is : bytes_in files.kept packed ≡ Has input
  pub front_is : out.taken ≡ Some front

-- The copy of a program, with its names by their numbers among those of the source.
abbrev pub copy_with : GenericProgramTree → Lexed → List Copy → ProgramTree
copy_with program lexed found = copied_program program (naming_of (length lexed.names) (entries found)) found

-- The source spells a typed program, with type parameters or without. It is copied for the types with which its declarations are
-- used, all within the limits, and the input is the packed file of a value of the type that main's parameter has in the copy: that
-- of a copied type, where it is one. What descriptions call a type there tells its types too, as `List[Int]`.
pub record Given (source input : List ℕ) : Type 0 where
  pub lexed : Lexed
  pub program : GenericProgramTree
  pub found : List Copy
  pub value : Datum
  pub spelled : Spells source lexed program
  pub typed : IsTypedGeneric program
  pub within : copies_of program ≡ Ok found
  pub short : length input ≤ 16777216
  pub file : File (table_of_program (copy_with program lexed found)) (long_texts lexed.names (entries found))
      (input_type (copy_with program lexed found)) value input

-- The copy.
abbrev pub copy_in : {source input : List ℕ} → Given source input → ProgramTree
copy_in given = copy_with given.program given.lexed given.found

-- A value of the copy as one of the program: each copied constructor is read as the one that it is a copy of.
abbrev pub read_in : {source input : List ℕ} → Given source input → Datum → Datum
read_in given v = shown (base_of (rows_of given.program.datas) given.found) v

-- What the program means on the input within the depth.
abbrev pub meant_in : {source input : List ℕ} → Given source input → ℕ → Outcome
meant_in given depth = run_generic given.program depth (read_in given given.value)

-- The program means a value on the input within the depth, and this is its text with a line feed.
pub record IsResult (source input : List ℕ) (depth : ℕ) (output : List ℕ) : Type 0 where
  pub given : Given source input
  pub result : Datum
  pub means : meant_in given depth ≡ Gives result
  pub is_text : output ≡ generic_text (rows_of given.program.datas) given.lexed.names result ++ 10 ∷ []

-- The bytes are an image of at most so many chunks, in which a value of the copy stands that is read as the one that the program
-- means on the input within the depth.
pub record IsResultImage (source input : List ℕ) (options : Options) (bytes : List ℕ) : Type 0 where
  pub given : Given source input
  pub result : Datum
  pub means : meant_in given options.depth ≡ Gives (read_in given result)
  pub image : IsImageOf (layouts_asked options (copy_in given)) (output_type (copy_in given)) bytes result
  pub few : chunk_count bytes ≤ options.chunks

-- The program means no value on the input within the depth, for this reason.
pub record HasNoResult (source input : List ℕ) (depth : ℕ) (why : Reason) : Type 0 where
  pub given : Given source input
  pub means : meant_in given depth ≡ Stops why

-- Its meaning runs out of depth: a call comes with no depth left.
abbrev pub IsTooDeep : (source input : List ℕ) → (depth : ℕ) → Type 0
IsTooDeep source input depth = HasNoResult source input depth Deep

-- So many chunks may not be enough for what the run costs, where so many calls and forks may be nested.
pub record IsTooBig (source input : List ℕ) (options : Options) (forks : ℕ) : Type 0 where
  pub given : Given source input
  pub tight : Tight options.chunks (run_cost (core_asked options (copy_in given)) options.depth forks given.value)

-- What the status of such a call tells. At 0 exactly the text of the value that the program means within the depth, with a line feed, was
-- put behind what `out` had taken. It is 3 only where the meaning runs out of depth, and 9 only where that is a division by 0.
abbrev pub TellsWhatIsMeant : (source input : List ℕ) → (depth : ℕ) → (front : List ℕ) → SinkView → Status → Type 0
TellsWhatIsMeant source input depth front out status.Done = (output : List ℕ) × IsResult source input depth output × (out.taken ≡ Some (front ++ output))
TellsWhatIsMeant source input depth front out (status.NoValue why) = HasNoResult source input depth why
TellsWhatIsMeant source input depth front out end' = ⊤

-- A call ends with this status, or for want of memory, or of chunks.
abbrev pub IsOrScarce : (due end' : Status) → Type 0
IsOrScarce due end' = (end' ≡ due) ⊎ (end' ≡ status.Memory) ⊎ (end' ≡ status.Full)

-- No read of the two documents failed in the call, nor the write of an image, nor a put on `out`.
pub record NoneFailed (program packed : Document) (image : Option (List ℕ)) (before now : ShelfView) (out_before out_now : SinkView) : Type 0 where
  pub program_read : (name : List ℕ) → IsUnread before now program name → ⊥
  pub packed_read : (name : List ℕ) → IsUnread before now packed name → ⊥
  pub image_written : (name : List ℕ) → image ≡ Some name → Rose (before.writes name) (now.writes name) → ⊥
  pub put : Rose out_before.faults out_now.faults → ⊥

-- ---- With the packed file of the result

-- To run it so, and to write the packed file of the result under a second name, behind the image, where that is asked for.
abbrev pub packing_plan : Document → Document → (image : Option (List ℕ)) → (pack : List ℕ) → Options → Plan
packing_plan program packed image pack options =
    record { first = []; source = program; inputs = packed ∷ []; target = image; pack = Some pack; job = Run; options = options }

-- The words ask for that; all else is as above.
pub record IsPackingRun (words : List (List ℕ)) (files : ShelfView) (out : SinkView) (source input : List ℕ) (options : Options) (front : List ℕ) : Type 0 where
  pub program : Document
  pub packed : Document
  pub image : Option (List ℕ)
  pub pack : List ℕ
  pub asks : asked words ≡ Some (packing_plan program packed image pack options)
  pub source_is : bytes_in files.kept program ≡ Has source
  pub input_is : bytes_in files.kept packed ≡ Has input
  pub front_is : out.taken ≡ Some front

-- The bytes are the packed file, of version 2, of a value of the copy, of the type of main's result, that is read as the one that the
-- program means on the input within the depth, and are no more than 16,777,216.
pub record IsResultFile (source input : List ℕ) (depth : ℕ) (bytes : List ℕ) : Type 0 where
  pub given : Given source input
  pub result : Datum
  pub means : meant_in given depth ≡ Gives (read_in given result)
  pub file : File2 (table_of_program (copy_in given)) (long_texts given.lexed.names (entries given.found)) (output_type (copy_in given)) result bytes
  pub few : length bytes ≤ 16777216

-- The program means a value on the input within the depth, as which a value of the copy is read whose packed file would have more bytes:
-- the header's 24, the description's, and the payload's.
pub record HasLongFile (source input : List ℕ) (depth : ℕ) : Type 0 where
  pub given : Given source input
  pub result : Datum
  pub typed : HasType (table_of_program (copy_in given)) result (output_type (copy_in given))
  pub means : meant_in given depth ≡ Gives (read_in given result)
  pub long : (d : List ℕ)
      → Describes (table_of_program (copy_in given)) (long_texts given.lexed.names (entries given.found)) (output_type (copy_in given)) d
      → 16777216 < 24 + length d + length (packed result)

-- None of these failed, nor the write of the packed file of the result.
pub record NoWriteFailed (program packed : Document) (image : Option (List ℕ)) (pack : List ℕ) (before now : ShelfView)
    (out_before out_now : SinkView) : Type 0 where
  pub others : NoneFailed program packed image before now out_before out_now
  pub packed_written : Rose (before.writes pack) (now.writes pack) → ⊥
