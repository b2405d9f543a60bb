-- What a run by workers leaves, and what the events of a journal leave.
use Rattle.gib_base.specs.Texts.{TextsView}
use Rattle.std.specs.Prelude.{◌≡◌, ◌≤◌, ◌⊎◌, ℕ, List, true}
use Rattle.gib_types.specs.Layout.{LaidOut}
use Rattle.gib_types.specs.Loaded.{Loaded}
use Rattle.gib_types.specs.Tree.{Datum}
use Rattle.gib_mem.specs.Memory.{Memory}
use Rattle.gib_mem.specs.Plain.{nothing}
use Rattle.gib_packed.specs.declared.root.Root.{Root}
use Rattle.gib_syntax.specs.Results as results
use Rattle.gib_syntax.specs.Tree.{ProgramTree}
use Rattle.gib_core.specs.LoweredParts.{LoweredParts}
use Rattle.gib_core.specs.Meaning.{core_run}
use Rattle.gib_core.specs.Parts.{core_of}
use Rattle.gib_core.specs.Tree.{CoreTree}
use Rattle.gib_code.specs.declared.answer.Answer.{Answer}
use Rattle.gib_code.specs.Program.{CodeTree}
use Rattle.gib_lower.specs.Lowering.{lower_program}
use Rattle.gib_load.specs.Placement.{Placement, placed_in}
use Rattle.gib_weave.specs.Running.{IsStart, word_of}
use Rattle.gib_weave.specs.Sound.{IsAnswer}
use Rattle.gib_weave.specs.Weave.{Weave, weave_start}
use Rattle.gib_weave.specs.declared.task.WeaveFault.TheVariants as event
use Rattle.gib_locked.specs.declared.journal.Line.{Line}
use Rattle.gib_locked.specs.declared.settings.Settings.{Settings}
use Rattle.gib_locked.specs.JournalReading.{IsRefusedAt}
use Rattle.gib_locked.specs.JournalText.{journal_text}
use Rattle.gib_locked.specs.Lines.{are_lines}
use Rattle.gib_locked.specs.Replays.{IsAnswered, IsLeftOpen, StopsAt}
use Rattle.gib_app.specs.declared.input_fault.InputFault.{InputFault}
use Rattle.gib_app.specs.declared.input_fault.InputFault.TheVariants.{Long, Packed, Image, Text, Journal}
use Rattle.gib_app.specs.declared.input_fault.JournalFault.TheVariants as journal
use Rattle.gib_app.specs.declared.made.Reason.{Reason}
use Rattle.gib_app.specs.declared.made.Reason.TheVariants as reason
use Rattle.gib_app.specs.declared.made.Reason.TheVariants.{Meant, Full}
use Rattle.gib_words.specs.declared.plan.Options.{Options}
use Rattle.gib_app.specs.declared.stop.Stop.{Stop}
use Rattle.gib_app.specs.InputFaults.{IsInputFault, IsReplayFault}
use Rattle.gib_app.specs.Replaying.{Happens, IsEndOf, IsJournal, IsSetBy, LacksChunks, OnJournal, layouts_for}
use Rattle.gib_app.specs.Running.{FillsUp, IsInput}
use Rattle.gib_app.specs.Stops.{IsRefusal, StopsBy}
use Rattle.gib_core.specs.Low.{laid_of}

-- A value was loaded into so many chunks, none of which was drawn. A run may start there.
pub record IsLoaded (l : LoweredParts) (chunks : ℕ) (v : Datum) (memory : Memory) (place : Root) (tails : List ℕ) : Type 0 where
  pub placed : record { memory = memory; root = place; tails = tails } ≡ placed_in l.code.laid (nothing chunks) v
  pub few : (placed_in l.code.laid (nothing chunks) v).memory.drawn ≤ chunks
  pub start : IsStart l place tails memory v

-- A value cannot be loaded into so many chunks: it needs them all, and more.
pub record IsOver (laid : LaidOut) (chunks : ℕ) (v : Datum) : Type 0 where
  pub many : (placed_in laid (nothing chunks) v).memory.drawn ≤ chunks → ⊥
  pub needs : Loaded chunks v

-- What runs: a core, its code, and how its values lie in memory.
pub record Engine : Type 0 where
  pub core : CoreTree
  pub code : CodeTree
  pub laid : LaidOut

-- What was lowered.
abbrev pub engine_of : LoweredParts → Engine
engine_of l = record { core = core_of l.core; code = l.code; laid = l.code.laid }

-- What runs for a core.
abbrev pub engine_for : CoreTree → Engine
engine_for core = record { core = core; code = lower_program core; laid = laid_of core }

-- What loading a value leaves, in a memory of so many chunks.
abbrev pub loaded_by : Engine → Settings → Datum → Placement
loaded_by e settings v = placed_in e.laid (nothing settings.chunks) v

-- The value can be loaded.
abbrev pub GoesInto : Engine → Settings → Datum → Type 0
GoesInto e settings v = (loaded_by e settings v).memory.drawn ≤ settings.chunks

-- The weave of the root alone on what loading leaves.
abbrev pub start_by : Engine → Settings → Placement → Weave
start_by e settings loaded = weave_start e.core e.code loaded.memory (word_of loaded.root) settings.depth settings.fork loaded.tails

-- The value is loaded, all events happen, and the root ends with this answer, which is what the core means. This is the memory then.
pub record IsEndBy (e : Engine) (v : Datum) (settings : Settings) (lines : List Line) (memory : Memory) (a : Answer) : Type 0 where
  pub goes_in : GoesInto e settings v
  pub answered : IsAnswered e.code (start_by e settings (loaded_by e settings v)) lines memory a
  pub means : IsAnswer e.laid memory.cells (results.One e.core.main.result) (core_run e.core settings.depth v) a

-- The value cannot be loaded, or an event draws where all chunks are drawn.
abbrev pub LacksBy : Engine → Datum → Settings → List Line → Type 0
LacksBy e v settings lines =
    (GoesInto e settings v → ⊥)
    ⊎ (GoesInto e settings v × (n : ℕ) × StopsAt e.code (start_by e settings (loaded_by e settings v)) lines n event.Full)

-- Why the events of a journal lead a weave to no end, want of chunks aside.
abbrev pub LeadsNowhere : CodeTree → Weave → List Line → InputFault → Type 0
LeadsNowhere code start lines (Long most) = ⊥
LeadsNowhere code start lines (Packed fault) = ⊥
LeadsNowhere code start lines (Image fault) = ⊥
LeadsNowhere code start lines (Text place) = ⊥
LeadsNowhere code start lines (Journal (journal.Line n)) = ⊥
LeadsNowhere code start lines (Journal (journal.NotEnabled n)) = StopsAt code start lines n event.NotNow
LeadsNowhere code start lines (Journal journal.NotEnded) = IsLeftOpen code start lines

-- The value can be loaded, and its events lead to no end.
abbrev pub IsFaultBy : Engine → Datum → Settings → List Line → InputFault → Type 0
IsFaultBy e v settings lines fault = GoesInto e settings v × LeadsNowhere e.code (start_by e settings (loaded_by e settings v)) lines fault

-- There is no value for want of chunks, of which this holds, and for no other reason.
abbrev pub OnlyFull : Type 0 → Reason → Type 0
OnlyFull T (Meant why) = ⊥
OnlyFull T Full = T
OnlyFull T reason.Long = ⊥

-- Why the events of a journal lead a weave to no end, as a stop.
abbrev pub LeavesOpen : CodeTree → Weave → List Line → Stop → Type 0
LeavesOpen code start lines =
    StopsBy (λ fault. ⊥) (λ name. ⊥) (LeadsNowhere code start lines) (OnlyFull ((n : ℕ) × StopsAt code start lines n event.Full)) (λ name. ⊥)

-- Why the events of a journal leave nothing of a value.
abbrev pub StopsTo : Engine → Datum → Settings → List Line → Stop → Type 0
StopsTo e v settings lines = StopsBy (λ fault. ⊥) (λ name. ⊥) (IsFaultBy e v settings lines) (OnlyFull (LacksBy e v settings lines)) (λ name. ⊥)

-- Why a run by workers on a value leaves no answer: so many chunks may not be enough, of which this holds.
abbrev pub IsWorkersStop : Type 0 → Stop → Type 0
IsWorkersStop T = StopsBy (λ fault. ⊥) (λ name. ⊥) (λ fault. ⊥) (OnlyFull T) (λ name. ⊥)

-- A run by workers of a program on an input: the events of this journal lead to this memory and answer.
pub record IsTraced (p : ProgramTree) (names : TextsView) (options : Options) (input : List ℕ) (settings : Settings) (lines : List Line) (memory : Memory)
    (a : Answer) : Type 0 where
  pub value : Datum
  pub is_input : IsInput p names value input
  pub set : IsSetBy options settings
  pub ended : IsEndOf p value settings lines memory a

-- Why such a run leaves no answer.
abbrev pub IsTraceStop : ProgramTree → TextsView → Options → List ℕ → Stop → Type 0
IsTraceStop p names options input =
    StopsBy (λ fault. ⊥) (λ name. ⊥) (λ fault. IsInputFault p names input fault × (((v : Datum) × IsInput p names v input) → ⊥))
    (OnlyFull (FillsUp p names options options.fork input)) (λ name. ⊥)

-- The fault is that of a text that is no journal, at its first line that cannot stand in one.
abbrev pub IsBadLine : List ℕ → InputFault → Type 0
IsBadLine bytes (Long most) = ⊥
IsBadLine bytes (Packed fault) = ⊥
IsBadLine bytes (Image fault) = ⊥
IsBadLine bytes (Text place) = ⊥
IsBadLine bytes (Journal (journal.Line n)) = IsRefusedAt bytes n
IsBadLine bytes (Journal (journal.NotEnabled n)) = ⊥
IsBadLine bytes (Journal journal.NotEnded) = ⊥

-- Why a call stops at bytes that are no journal.
abbrev pub IsNoJournal : List ℕ → Stop → Type 0
IsNoJournal bytes = IsRefusal (λ fault. IsBadLine bytes fault × ((s : Settings) (ls : List Line) → are_lines ls ≡ true → bytes ≡ journal_text s ls → ⊥))

-- The bytes are an input and a journal, whose events lead to this memory and answer, with these layouts.
pub record IsReplayed (p : ProgramTree) (names : TextsView) (input bytes : List ℕ) (laid : LaidOut) (memory : Memory) (a : Answer) : Type 0 where
  pub value : Datum
  pub settings : Settings
  pub lines : List Line
  pub is_input : IsInput p names value input
  pub is_journal : IsJournal settings lines bytes
  pub laid_is : laid ≡ layouts_for p settings
  pub ended : IsEndOf p value settings lines memory a

-- Why a replay leaves no answer.
abbrev pub IsNotReplayed : ProgramTree → TextsView → (input bytes : List ℕ) → Stop → Type 0
IsNotReplayed p names input bytes =
    StopsBy (λ fault. ⊥) (λ name. ⊥) (λ fault. IsReplayFault p names input bytes fault × (OnJournal p names input bytes (Happens p) → ⊥))
    (OnlyFull (OnJournal p names input bytes (LacksChunks p))) (λ name. ⊥)
