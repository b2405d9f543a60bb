-- What a source and a packed file are, and what a program means on a file.
use Rattle.gib_base.specs.Texts.{TextsView, plain_texts}
use Rattle.std.specs.Prelude.{◌≡◌, ◌⊎◌, ℕ, ◌+◌, ◌≤◌, ◌<◌, List, [], ◌∷◌, ◌++◌, length, Ok, Option, None, Some}
use Rattle.gib_base.specs.Lexed.{Lexed}
use Rattle.gib_base.specs.declared.token.Dialect.{Dialect}
use Rattle.gib_base.specs.declared.token.Dialect.TheVariants.{Source, Located}
use Rattle.gib_types.specs.Tree.{Datum}
use Rattle.gib_file.specs.Framed.{File, File2}
use Rattle.gib_file.specs.Describing.{Describes}
use Rattle.gib_file.specs.Packed.{packed}
use Rattle.gib_value.specs.Text.{text}
use Rattle.gib_syntax.specs.Tree.{ProgramTree}
use Rattle.gib_syntax.specs.Source.{Spells}
use Rattle.gib_print.specs.Image.{IsImageOf, chunk_count}
use Rattle.gib_print.specs.ImageReading.{IsRead}
use Rattle.gib_syntax.specs.Declarations.{table_of_program, input_type, output_type}
use Rattle.gib_syntax.specs.GenericTree.{GenericProgramTree}
use Rattle.gib_syntax.specs.GenericTyping.{IsTypedGeneric}
use Rattle.gib_mono.specs.Walk.{Copy, copies_of, copied_program}
use Rattle.gib_mono.specs.Naming.{entries, naming_of}
use Rattle.gib_mono.specs.Showing.{short_texts, long_texts}
use Rattle.gib_syntax.specs.Meaning.{Reason, Gives, Stops, run}
use Rattle.gib_gen.specs.Summary.{summary_line}
use Rattle.gib_core.specs.Cost.{run_cost}
use Rattle.gib_core.specs.Erasing.{erase_core}
use Rattle.gib_core.specs.Marking.{mark_core}
use Rattle.gib_core.specs.Tight.{Tight}
use Rattle.gib_core.specs.Tree.{CoreTree}
use Rattle.gib_local.specs.Counting.{broken_text}
use Rattle.gib_local.specs.Local.{Local}
use Rattle.gib_app.specs.Cores.{core_asked, layouts_asked}
use Rattle.gib_types.specs.Layout.{LaidOut}
use Rattle.gib_words.specs.declared.plan.Options.{Options}

-- This is the copy of a program with these names, for the types with which its declarations are used: all uses are within the
-- limits. Values have the short texts of its names; cores, code and descriptions the long ones.
pub record IsCopy (generic : GenericProgramTree) (names : List (List ℕ)) (p : ProgramTree) (texts : TextsView) : Type 0 where
  pub found : List Copy
  pub within : copies_of generic ≡ Ok found
  pub is : p ≡ copied_program generic (naming_of (length names) (entries found)) found
  pub shown : texts ≡ record { short = short_texts names (entries found); long = long_texts names (entries found) }

-- The source spells a program, with type parameters or without, that is typed, and this is its copy, with the texts of its names.
pub record IsProgram (source : List ℕ) (texts : TextsView) (p : ProgramTree) : Type 0 where
  pub lexed : Lexed
  pub generic : GenericProgramTree
  pub spelled : Spells source lexed generic
  pub typed : IsTypedGeneric generic
  pub copy : IsCopy generic lexed.names p texts

-- A program as a job takes it: its tree, which tells what it means; and the core that runs, where a source writes its places out.
pub record Program : Type 0 where
  pub tree : ProgramTree
  pub located : Option CoreTree

-- A program whose core the passes make.
abbrev pub sourced : ProgramTree → Program
sourced p = record { tree = p; located = None }

-- The source is a text that writes its places out, whose core breaks no build rule. That core runs, with its marks, and the program is
-- what is left of it without its places. Values, cores and descriptions have the names of the text.
pub record IsLocated (source : List ℕ) (texts : TextsView) (p : Program) : Type 0 where
  pub core : CoreTree
  pub local : Local source core
  pub built : broken_text local.tree core ≡ None
  pub is : p ≡ record { tree = erase_core local.tree.datas core; located = Some (mark_core core) }
  pub shown : texts ≡ plain_texts local.lexed.names

-- The source is this program in a dialect: with its places left to the passes, or written out.
abbrev pub IsProgramIn : Dialect → List ℕ → TextsView → Program → Type 0
IsProgramIn Source source texts p = IsProgram source texts p.tree × (p.located ≡ None)
IsProgramIn Located source texts p = IsLocated source texts p

-- The source is a program in a dialect.
abbrev pub IsSourceIn : Dialect → List ℕ → Type 0
IsSourceIn dialect source = (texts : TextsView) × (p : Program) × IsProgramIn dialect source texts p

-- The source is no program in a dialect: it is too long, spells none, is not typed, or a use in it is over a limit; or where places are
-- written out, a name is not in order, a place is not the one that is due, or a build rule is broken.
abbrev pub IsNoProgramIn : Dialect → List ℕ → Type 0
IsNoProgramIn dialect source = (texts : TextsView) (p : Program) → IsProgramIn dialect source texts p → ⊥

-- The source is no program whose places are left to the passes.
abbrev pub IsNoProgram : List ℕ → Type 0
IsNoProgram source = (texts : TextsView) (p : ProgramTree) → IsProgram source texts p → ⊥

-- The input is the packed file of this value, which is of the type of main's parameter, and has at most
-- 16,777,216 bytes.
pub record IsInput (p : ProgramTree) (names : TextsView) (v : Datum) (input : List ℕ) : Type 0 where
  pub short : length input ≤ 16777216
  pub file : File (table_of_program p) names.long (input_type p) v input

-- The text of a value of a program, with a line feed; the names by their numbers.
abbrev pub text_line : ProgramTree → TextsView → Datum → List ℕ
text_line p names v = text (table_of_program p) names.short v ++ 10 ∷ []

-- The text of the value that the program means on the input within the depth, with its line feed.
pub record IsOutput (p : ProgramTree) (names : TextsView) (depth : ℕ) (input output : List ℕ) : Type 0 where
  pub value : Datum
  pub result : Datum
  pub is_input : IsInput p names value input
  pub means : run p depth value ≡ Gives result
  pub is_text : output ≡ text_line p names result

-- The line about the value that the program means on the input within the depth, where both were made of a number and of levels.
pub record IsSummary (p : ProgramTree) (names : TextsView) (number levels depth : ℕ) (input output : List ℕ) : Type 0 where
  pub value : Datum
  pub result : Datum
  pub is_input : IsInput p names value input
  pub means : run p depth value ≡ Gives result
  pub is_line : output ≡ summary_line number levels result

-- The bytes are an image in which the value stands that the program means on the input within the depth, and have at most so many
-- chunks.
pub record IsRunImage (p : ProgramTree) (names : TextsView) (options : Options) (input bytes : List ℕ) : Type 0 where
  pub value : Datum
  pub result : Datum
  pub is_input : IsInput p names value input
  pub means : run p options.depth value ≡ Gives result
  pub image : IsImageOf (layouts_asked options p) (output_type p) bytes result
  pub few : chunk_count bytes ≤ options.chunks

-- The bytes are the packed file of version 2 of the value that the program means on the input within the depth, and are no more than
-- 16,777,216.
pub record IsPackedResult (p : ProgramTree) (names : TextsView) (depth : ℕ) (input bytes : List ℕ) : Type 0 where
  pub value : Datum
  pub result : Datum
  pub is_input : IsInput p names value input
  pub means : run p depth value ≡ Gives result
  pub file : File2 (table_of_program p) names.long (output_type p) result bytes
  pub few : length bytes ≤ 16777216

-- The program means a value on the input within the depth whose packed file of version 2 would be longer: the header's 24 bytes, the
-- description's, and the payload's.
pub record IsLongResult (p : ProgramTree) (names : TextsView) (depth : ℕ) (input : List ℕ) : Type 0 where
  pub value : Datum
  pub result : Datum
  pub is_input : IsInput p names value input
  pub means : run p depth value ≡ Gives result
  pub long : (d : List ℕ) → Describes (table_of_program p) names.long (output_type p) d → 16777216 < 24 + length d + length (packed result)

-- The program means no value on the input within the depth, for this reason.
pub record MeansNone (p : ProgramTree) (names : TextsView) (depth : ℕ) (input : List ℕ) (why : Reason) : Type 0 where
  pub value : Datum
  pub is_input : IsInput p names value input
  pub means : run p depth value ≡ Stops why

-- So many chunks may not be enough for what the run of a core of the program on the input costs, where so many calls and forks may be
-- nested.
pub record FillsUpBy (core : CoreTree) (p : ProgramTree) (names : TextsView) (depth forks chunks : ℕ) (input : List ℕ) : Type 0 where
  pub value : Datum
  pub is_input : IsInput p names value input
  pub tight : Tight chunks (run_cost core depth forks value)

-- The same of the core that the passes make of the program.
abbrev pub FillsUp : ProgramTree → TextsView → Options → (forks : ℕ) → List ℕ → Type 0
FillsUp p names options forks input = FillsUpBy (core_asked options p) p names options.depth forks options.chunks input

-- A file whose value is shown: the packed file of a value of the type of main's parameter; or an image of one of the type of
-- main's result, in which it is read in at most 16,777,216 items.
abbrev pub IsShownValue : ProgramTree → TextsView → (laid : LaidOut) → Datum → List ℕ → Type 0
IsShownValue p names laid v file = IsInput p names v file ⊎ IsRead laid (output_type p) file v

-- The text of the value of such a file, with a line feed.
pub record IsShown (p : ProgramTree) (names : TextsView) (laid : LaidOut) (file output : List ℕ) : Type 0 where
  pub value : Datum
  pub is_value : IsShownValue p names laid value file
  pub is_text : output ≡ text_line p names value
