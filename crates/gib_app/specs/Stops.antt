-- What the parts of a call answer, and why they stop.
use Rattle.gib_base.specs.Texts.{TextsView}
use Rattle.std.specs.Prelude.{◌≡◌, ◌<◌, ◌⊎◌, ℕ, List, [], ◌∷◌, length, Option, Some, None, Err}
use Rattle.gib_types.specs.declared.table.Ty.{Ty}
use Rattle.gib_types.specs.Table.{Table}
use Rattle.gib_types.specs.Tree.{Datum}
use Rattle.gib_file.specs.Framed.{File}
use Rattle.gib_value.specs.Text.{AreHeld}
use Rattle.gib_value.specs.Reading.{AreWords, AreApart}
use Rattle.gib_syntax.specs.Tree.{ProgramTree}
use Rattle.gib_syntax.specs.Fine.{IsFineProgram}
use Rattle.gib_syntax.specs.Declarations.{table_of_program}
use Rattle.std.specs.Prelude.{Bool}
use Rattle.gib_edge.specs.Views.{ShelfView}
use Rattle.gib_app.specs.declared.input_fault.InputFault.{InputFault}
use Rattle.gib_app.specs.declared.input_fault.InputFault.TheVariants as input
use Rattle.gib_app.specs.declared.input_fault.PackedFault.{PackedFault}
use Rattle.gib_app.specs.declared.made.Reason.{Reason}
use Rattle.gib_words.specs.declared.plan.Job.{Job}
use Rattle.gib_app.specs.declared.source_fault.SourceFault.{SourceFault}
use Rattle.gib_app.specs.declared.source_fault.SourceFault.TheVariants.{OverLimit}
use Rattle.gib_base.specs.declared.Span.{Span}
use Rattle.gib_base.specs.declared.token.Dialect.{Dialect}
use Rattle.gib_syntax.specs.GenericTree.{GenericProgramTree}
use Rattle.gib_mono.specs.Walk.{copies_of}
use Rattle.gib_words.specs.declared.plan.Options.{Options}
use Rattle.gib_app.specs.declared.stop.Stop.{Stop}
use Rattle.gib_app.specs.declared.stop.Stop.TheVariants.{Usage, Source, Unread, Input, NoValue, Memory, Unwritten, Unput}
use Rattle.gib_app.specs.Rows.{FollowsJournal, row}
use Rattle.gib_words.specs.Plan.{Document, Plan, Files, Contents}
use Rattle.gib_app.specs.Writes.{at_reading}
use Rattle.gib_app.specs.Running.{Program, IsNoProgram, IsNoProgramIn, IsInput, IsShownValue}
use Rattle.gib_app.specs.Packing.{IsPackedBy}
use Rattle.gib_app.specs.SourceFaults.{IsSourceFault, IsSourceFaultIn}
use Rattle.gib_app.specs.InputFaults.{IsFileFault, IsInputFault, IsReplayFault, IsShowFault, IsPackFault}
use Rattle.gib_app.specs.Formats.{inputs_of, dialect_of, most_of, Accepts, Refuses}
use Rattle.gib_app.specs.Causes.{AreFurther, AreGiven, AreReached, OnSource, OnReached, IsUnread, AreUnread, first_of, further_of, FailsToRead, FailsToWrite}
use Rattle.gib_app.specs.Replaying.{journal_in, OnJournal, Happens}
use Rattle.gib_types.specs.Layout.{LaidOut}

-- What a program is run with, and its values are read and written with: its bodies are of the grammar, the names of its
-- constructors are held, and are words, and those of one type are different.
pub record IsReady (p : ProgramTree) (names : TextsView) : Type 0 where
  pub fine : IsFineProgram p
  pub held : AreHeld (table_of_program p) names.short
  pub words : AreWords (table_of_program p) names.short
  pub apart : AreApart (table_of_program p) names.short

-- Why there is no value, where that is the stop.
abbrev pub reason_of : Stop → Option Reason
reason_of (NoValue reason) = Some reason
reason_of _ = None

-- Why a call stops: a source that is no program, a file that is not read, a second file that is refused, a job without a value,
-- a file that is not written. Want of memory is free.
abbrev pub StopsBy : (SourceFault → Type 0) → (List ℕ → Type 0) → (InputFault → Type 0) → (Reason → Type 0) → (List ℕ → Type 0) → Stop → Type 0
StopsBy source unread input novalue unwritten Usage = ⊥
StopsBy source unread input novalue unwritten (Source fault) = source fault
StopsBy source unread input novalue unwritten (Unread name) = unread name.now
StopsBy source unread input novalue unwritten (Input fault) = input fault
StopsBy source unread input novalue unwritten (NoValue reason) = novalue reason
StopsBy source unread input novalue unwritten Memory = Unit {0}
StopsBy source unread input novalue unwritten (Unwritten name) = unwritten name.now
StopsBy source unread input novalue unwritten Unput = ⊥

-- Why a source is not compiled.
abbrev pub IsCompileStop : List ℕ → Stop → Type 0
IsCompileStop source = StopsBy (λ fault. IsSourceFault source fault × IsNoProgram source) (λ name. ⊥) (λ fault. ⊥) (λ reason. ⊥) (λ name. ⊥)

-- Why a typed program is not copied: its first use over a limit begins there.
abbrev pub IsCopyStop : GenericProgramTree → Stop → Type 0
IsCopyStop generic =
    StopsBy (λ fault. (use_of : Span) × (copies_of generic ≡ Err use_of) × (fault ≡ OverLimit use_of.start)) (λ name. ⊥) (λ fault. ⊥) (λ reason. ⊥) (λ name. ⊥)

-- Why the bytes of a document are not read: the count of its file rose.
abbrev pub IsReadStop : ShelfView → ShelfView → Document → Stop → Type 0
IsReadStop before now d = StopsBy (λ fault. ⊥) (λ name. IsUnread before now d name) (λ fault. ⊥) (λ reason. ⊥) (λ name. ⊥)

-- Why no program comes of a source in a dialect.
abbrev pub IsSourceStop : Dialect → ShelfView → ShelfView → Document → Stop → Type 0
IsSourceStop dialect before now d =
    StopsBy (λ fault. OnSource before.kept d (λ bytes. IsSourceFaultIn dialect bytes fault × IsNoProgramIn dialect bytes)) (λ name. IsUnread before now d name)
    (λ fault. ⊥) (λ reason. ⊥) (λ name. ⊥)

-- The first input has more bytes than a plan reads.
pub record IsLongInput (kept : Files) (plan : Plan) (fault : InputFault) : Type 0 where
  pub is : fault ≡ input.Long (most_of plan.job)
  pub given : Contents
  pub given_held : AreGiven kept (first_of (inputs_of plan)) given
  pub many : most_of plan.job < length given.second

-- Why the bytes of the first input are not read.
abbrev pub IsInputStop : ShelfView → ShelfView → Plan → Stop → Type 0
IsInputStop before now plan =
    StopsBy (λ fault. ⊥) (λ name. AreUnread before now (first_of (inputs_of plan)) name) (IsLongInput before.kept plan) (λ reason. ⊥) (λ name. ⊥)

-- The input behind the first has more bytes than a plan reads, and the first is a packed file of a value that the program takes.
pub record IsLongFurther (kept : Files) (plan : Plan) (p : Program) (names : TextsView) (first : List ℕ) (fault : InputFault) : Type 0 where
  pub is : fault ≡ input.Long 16777216
  pub taken : (v : Datum) × IsInput p.tree names v first
  pub bytes : List ℕ
  pub held : AreFurther kept (further_of (inputs_of plan)) (bytes ∷ [])
  pub many : 16777216 < length bytes

-- Why the bytes of the input behind the first are not read: the first is no packed file of a value that the program takes; or it is,
-- and the count of the other one's file rose, or that one has more bytes than a plan reads.
abbrev pub IsFurtherStop : ShelfView → ShelfView → Plan → Program → TextsView → (first : List ℕ) → Stop → Type 0
IsFurtherStop before now plan p names first =
    StopsBy (λ fault. ⊥) (λ name. AreUnread before now (further_of (inputs_of plan)) name × ((v : Datum) × IsInput p.tree names v first))
    (λ fault. ((row plan.job ≡ FollowsJournal) × IsInputFault p.tree names first fault × (((v : Datum) × IsInput p.tree names v first) → ⊥))
    ⊎ IsLongFurther before.kept plan p names first fault)
    (λ reason. ⊥) (λ name. ⊥)

-- Why the bytes of the inputs are not read: the count of a file rose, for a further one where the first is a packed file of a value
-- that the program takes; or they are refused.
abbrev pub IsInputsStop : ShelfView → ShelfView → Plan → Program → (names : TextsView) → Stop → Type 0
IsInputsStop before now plan p names =
    StopsBy (λ fault. ⊥)
    (λ name. AreUnread before now (first_of (inputs_of plan)) name
    ⊎ (AreUnread before now (further_of (inputs_of plan)) name
    × ((given : Contents) × AreGiven before.kept (first_of (inputs_of plan)) given × ((v : Datum) × IsInput p.tree names v given.second))))
    (λ fault. (given : Contents) × AreReached before.kept p names (inputs_of plan) given
    × Refuses plan.job plan.options p names given fault × (Accepts plan.job plan.options p names given → ⊥))
    (λ reason. ⊥) (λ name. ⊥)

-- Why nothing is made of a second file: it is refused so.
abbrev pub IsRefusal : (InputFault → Type 0) → Stop → Type 0
IsRefusal refused = StopsBy (λ fault. ⊥) (λ name. ⊥) refused (λ reason. ⊥) (λ name. ⊥)

-- The fault is that of a packed file, of which this holds.
abbrev pub IsPacked : (PackedFault → Type 0) → InputFault → Type 0
IsPacked P (input.Long most) = ⊥
IsPacked P (input.Packed fault) = P fault
IsPacked P (input.Image fault) = ⊥
IsPacked P (input.Text place) = ⊥
IsPacked P (input.Journal fault) = ⊥

-- Why a file is not read as a packed one: it is that of no value.
abbrev pub IsPackedStop : Table → List (List ℕ) → Ty → List ℕ → Stop → Type 0
IsPackedStop table names ty bytes = IsRefusal (IsPacked (λ fault. IsFileFault table names ty bytes fault × ((v : Datum) → File table names ty v bytes → ⊥)))

-- Why a program is not run on an input.
abbrev pub IsRunStop : ProgramTree → TextsView → List ℕ → Stop → Type 0
IsRunStop p names input = IsRefusal (λ fault. IsInputFault p names input fault × (((v : Datum) × IsInput p names v input) → ⊥))

-- Why a file is not shown.
abbrev pub IsShowStop : ProgramTree → TextsView → (laid : LaidOut) → List ℕ → Stop → Type 0
IsShowStop p names laid file = IsRefusal (λ fault. IsShowFault p names laid file fault × (((v : Datum) × IsShownValue p names laid v file) → ⊥))

-- Why no packed file is made.
abbrev pub IsPackStop : (repacks first : Bool) → ProgramTree → TextsView → List ℕ → Stop → Type 0
IsPackStop repacks first p names bytes =
    IsRefusal (λ fault. IsPackFault repacks first p names bytes fault × (((file : List ℕ) × IsPackedBy repacks first p names bytes file) → ⊥))

-- Why no journal is replayed.
abbrev pub IsReplayStop : ProgramTree → TextsView → Contents → Stop → Type 0
IsReplayStop p names given =
    IsRefusal (λ fault. IsReplayFault p names given.second (journal_in given) fault × (OnJournal p names given.second (journal_in given) (Happens p) → ⊥))

-- Why a job makes nothing, for this program, of the bytes of its inputs.
abbrev pub FailsTo : Job → Options → Program → TextsView → Contents → Stop → Type 0
FailsTo job options p names given = IsRefusal (λ fault. Refuses job options p names given fault × (Accepts job options p names given → ⊥))

-- Why what is asked for is not made: the source is no program, a file is not read, the inputs are refused.
abbrev pub IsMakeStop : ShelfView → ShelfView → Plan → Stop → Type 0
IsMakeStop before now plan =
    StopsBy (λ fault. OnSource before.kept plan.source (λ bytes. IsSourceFaultIn (dialect_of plan.job) bytes fault × IsNoProgramIn (dialect_of plan.job) bytes))
    (λ name. FailsToRead before.kept before now plan name)
    (λ fault. OnReached before.kept plan
    (λ p names given. Refuses plan.job plan.options p names given fault × (Accepts plan.job plan.options p names given → ⊥)))
    (λ reason. ⊥) (λ name. ⊥)

-- Why what is asked for is not made, or not written.
abbrev pub IsStop : Bool → ShelfView → ShelfView → Plan → Stop → Type 0
IsStop tells before now plan =
    StopsBy (λ fault. OnSource (at_reading tells before.kept plan) plan.source
    (λ bytes. IsSourceFaultIn (dialect_of plan.job) bytes fault × IsNoProgramIn (dialect_of plan.job) bytes))
    (λ name. FailsToRead (at_reading tells before.kept plan) before now plan name)
    (λ fault. OnReached (at_reading tells before.kept plan) plan
    (λ p names given. Refuses plan.job plan.options p names given fault × (Accepts plan.job plan.options p names given → ⊥)))
    (λ reason. ⊥)
    (λ name. FailsToWrite tells before now plan name)
