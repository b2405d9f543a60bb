-- What a journal is to a program and an input, and where its events lead.
use Rattle.gib_base.specs.Texts.{TextsView}
use Rattle.std.specs.Prelude.{◌≡◌, ◌≤◌, ◌⊎◌, ℕ, List, [], ◌∷◌, length, Bool, true, false, Option, Some, None, Result, Ok, Err}
use Rattle.gib_types.specs.declared.table.Ty.{Ty}
use Rattle.gib_types.specs.Layout.{LaidOut}
use Rattle.gib_types.specs.Tree.{Datum}
use Rattle.gib_mem.specs.Memory.{Memory}
use Rattle.gib_mem.specs.Plain.{nothing}
use Rattle.gib_packed.specs.declared.root.Root.{Root}
use Rattle.gib_packed.specs.declared.root.Root.TheVariants as place
use Rattle.gib_print.specs.Image.{IsImageOf, image_of}
use Rattle.gib_syntax.specs.Declarations.{output_type}
use Rattle.gib_syntax.specs.Meaning.{Gives, Stops, run}
use Rattle.gib_syntax.specs.Results as results
use Rattle.gib_syntax.specs.Tree.{ProgramTree}
use Rattle.gib_code.specs.declared.answer.Answer.{Answer}
use Rattle.gib_code.specs.declared.answer.Answer.TheVariants as answer
use Rattle.gib_types.specs.declared.reason.Reason.{Reason}
use Rattle.gib_types.specs.declared.reason.Reason.TheVariants as reason
use Rattle.gib_code.specs.Program.{CodeTree}
use Rattle.gib_lower.specs.Lowering.{lower_program}
use Rattle.gib_load.specs.Placement.{Placement, placed_in}
use Rattle.gib_weave.specs.Running.{word_of}
use Rattle.gib_weave.specs.Sound.{IsAnswer}
use Rattle.gib_weave.specs.Weave.{Weave, weave_start}
use Rattle.gib_weave.specs.declared.task.WeaveFault.TheVariants as event
use Rattle.gib_locked.specs.declared.journal.Line.{Line}
use Rattle.gib_locked.specs.declared.settings.Settings.{Settings}
use Rattle.gib_locked.specs.JournalText.{journal_text}
use Rattle.gib_locked.specs.Lines.{are_lines}
use Rattle.gib_locked.specs.Replays.{IsAnswered, IsLeftOpen, StopsAt}
use Rattle.gib_words.specs.declared.plan.Options.{Options}
use Rattle.gib_app.specs.Cores.{core_after, layouts_of}
use Rattle.gib_words.specs.Plan.{Contents}
use Rattle.gib_app.specs.Running.{IsInput, text_line}
use Rattle.gib_core.specs.Tree.{CoreTree}

-- The first of the further inputs, or no bytes where there is none.
abbrev pub first_further : List (List ℕ) → List ℕ
first_further [] = []
first_further (bytes ∷ rest) = bytes

-- The bytes of the journal among those of the inputs.
abbrev pub journal_in : Contents → List ℕ
journal_in given = first_further given.further

-- The bytes are the text of the journal with these settings and lines, and have at most 16,777,216 bytes.
pub record IsJournal (settings : Settings) (lines : List Line) (bytes : List ℕ) : Type 0 where
  pub short : length bytes ≤ 16777216
  pub are : are_lines lines ≡ true
  pub text_is : bytes ≡ journal_text settings lines

-- The core that runs.
abbrev pub core_for : ProgramTree → Settings → CoreTree
core_for p settings = core_after settings.access 4 p

-- Its layouts.
abbrev pub layouts_for : ProgramTree → Settings → LaidOut
layouts_for p settings = layouts_of settings.access p

-- Its code.
abbrev pub code_for : ProgramTree → Settings → CodeTree
code_for p settings = lower_program (core_for p settings)

-- What loading makes of a memory in which no chunk is drawn.
abbrev pub loaded_for : ProgramTree → Settings → Datum → Placement
loaded_for p settings v = placed_in (layouts_for p settings) (nothing settings.chunks) v

-- The value can be loaded: it needs no more chunks than there are.
abbrev pub GoesIn : ProgramTree → Settings → Datum → Type 0
GoesIn p settings v = (loaded_for p settings v).memory.drawn ≤ settings.chunks

-- The weave of the root alone, on what loading leaves.
abbrev pub start_on : ProgramTree → Settings → Placement → Weave
start_on p settings loaded =
    weave_start (core_for p settings) (code_for p settings) loaded.memory (word_of loaded.root) settings.depth settings.fork loaded.tails

-- The same on a value.
abbrev pub start_for : ProgramTree → Settings → Datum → Weave
start_for p settings v = start_on p settings (loaded_for p settings v)

-- The value is loaded, all events happen, and the root ends with this answer, which is what the program means. This is the memory
-- then.
pub record IsEndOf (p : ProgramTree) (v : Datum) (settings : Settings) (lines : List Line) (memory : Memory) (a : Answer) : Type 0 where
  pub goes_in : GoesIn p settings v
  pub answered : IsAnswered (code_for p settings) (start_for p settings v) lines memory a
  pub means : IsAnswer (layouts_for p settings) memory.cells (results.One (output_type p)) (run p settings.depth v) a

-- The value cannot be loaded, or an event draws where all chunks are drawn.
abbrev pub LacksChunks : ProgramTree → Datum → Settings → List Line → Type 0
LacksChunks p v settings lines =
    (GoesIn p settings v → ⊥)
    ⊎ (GoesIn p settings v × (n : ℕ) × StopsAt (code_for p settings) (start_for p settings v) lines n event.Full)

-- An event of the line of a number is not enabled.
abbrev pub IsNotEnabled : ProgramTree → Datum → Settings → List Line → ℕ → Type 0
IsNotEnabled p v settings lines n = GoesIn p settings v × StopsAt (code_for p settings) (start_for p settings v) lines n event.NotNow

-- All events happen, and the root has not ended then.
abbrev pub IsNotEnded : ProgramTree → Datum → Settings → List Line → Type 0
IsNotEnded p v settings lines = GoesIn p settings v × IsLeftOpen (code_for p settings) (start_for p settings v) lines

-- The first bytes are the packed file of a value, the others the text of a journal, and this holds of these.
pub record OnJournal (p : ProgramTree) (names : TextsView) (input bytes : List ℕ) (P : Datum → Settings → List Line → Type 0) : Type 0 where
  pub value : Datum
  pub settings : Settings
  pub lines : List Line
  pub is_input : IsInput p names value input
  pub is_journal : IsJournal settings lines bytes
  pub holds : P value settings lines

-- The events of a journal lead to an end, or to where chunks run out.
abbrev pub Happens : ProgramTree → Datum → Settings → List Line → Type 0
Happens p v settings lines = ((memory : Memory) × (a : Answer) × IsEndOf p v settings lines memory a) ⊎ LacksChunks p v settings lines

-- The root that an answer is, or why there is none.
abbrev pub root_in : Answer → Result Root Reason
root_in (answer.Whole z) = Ok (place.Whole z)
root_in (answer.Truth b) = Ok (place.Truth b)
root_in (answer.At a) = Ok (place.At a)
root_in (answer.Parts ws) = Err reason.Deep
root_in (answer.NoValue why) = Err why

-- What a run by workers is started with.
pub record IsSetBy (options : Options) (settings : Settings) : Type 0 where
  pub depth : settings.depth ≡ options.depth
  pub chunks : settings.chunks ≡ options.chunks
  pub fork : settings.fork ≡ options.fork
  pub access : settings.access ≡ options.access

-- The bytes are the text of a journal, of whatever length, with the settings of these options: on the input its events lead to an
-- end.
pub record IsTrace (p : ProgramTree) (names : TextsView) (options : Options) (input bytes : List ℕ) : Type 0 where
  pub value : Datum
  pub settings : Settings
  pub lines : List Line
  pub memory : Memory
  pub ends_with : Answer
  pub is_input : IsInput p names value input
  pub set : IsSetBy options settings
  pub are : are_lines lines ≡ true
  pub text_is : bytes ≡ journal_text settings lines
  pub ended : IsEndOf p value settings lines memory ends_with

-- The image of a memory with this place for its root, in which the value stands; or none, where none is asked for.
abbrev pub IsImageFile : (image : Bool) → LaidOut → Ty → Memory → Root → Datum → Option (List ℕ) → Type 0
IsImageFile false laid ty memory place result file = file ≡ None
IsImageFile true laid ty memory place result file = (file ≡ Some (image_of memory place)) × IsImageOf laid ty (image_of memory place) result

-- The events of a journal lead to a root that stands for what the program means within the journal's depth. The text is that of this
-- value with a line feed, and the file the image of the memory then, where one is asked for.
pub record IsShownEnd (p : ProgramTree) (names : TextsView) (image : Bool) (file : Option (List ℕ)) (text : List ℕ) (v : Datum) (settings : Settings)
    (lines : List Line) : Type 0 where
  pub memory : Memory
  pub ends_with : Answer
  pub place : Root
  pub result : Datum
  pub ended : IsEndOf p v settings lines memory ends_with
  pub is_place : root_in ends_with ≡ Ok place
  pub means : run p settings.depth v ≡ Gives result
  pub is_text : text ≡ text_line p names result
  pub is_file : IsImageFile image (layouts_for p settings) (output_type p) memory place result file

-- They lead to a root that ended without a value, for this reason.
pub record IsValueless (p : ProgramTree) (why : Reason) (v : Datum) (settings : Settings) (lines : List Line) : Type 0 where
  pub memory : Memory
  pub ended : IsEndOf p v settings lines memory (answer.NoValue why)
  pub means : run p settings.depth v ≡ Stops why
