-- Each status by its cause, and what stays with it.
use Rattle.gib_base.specs.Texts.{TextsView}
use Rattle.std.specs.Prelude.{◌≡◌, ◌≢◌, ◌⊎◌, ℕ, List, [], ◌∷◌, ◌++◌, take, codes, Option, None, Some, MatchOption, Bool, ⊤}
use Rattle.std.specs.Option.{option_map_or}
use Rattle.gib_edge.specs.Causes.{Rose}
use Rattle.gib_edge.specs.Views.{Has, Missing, ShelfView, SinkView}
use Rattle.gib_types.specs.Tree.{Datum}
use Rattle.gib_app.specs.declared.input_fault.InputFault.{InputFault}
use Rattle.gib_app.specs.declared.source_fault.SourceFault.{SourceFault}
use Rattle.gib_app.specs.declared.status.Status.{Status}
use Rattle.gib_app.specs.declared.status.Status.TheVariants as status
use Rattle.gib_app.specs.declared.status.Status.TheVariants.{Done, Source, Usage, Full, Memory, ReadFault, WriteFault, Input, Long}
use Rattle.gib_app.specs.declared.made.Reason.{Reason}
use Rattle.gib_app.specs.declared.made.Reason.TheVariants as reason
use Rattle.gib_app.specs.declared.made.Reason.TheVariants.{Meant}
use Rattle.gib_app.specs.Rows.{Way, Plainly, ForFiles, ForJournal, Row, Evaluates, FollowsJournal, row}
use Rattle.gib_words.specs.Plan.{Write, Plan, Files, bytes_in, Contents}
use Rattle.gib_app.specs.Writes.{at_reading, AreMade, IsNamedIn, IsTarget}
use Rattle.gib_words.specs.Words.{asked}
use Rattle.gib_app.specs.Running.{Program, IsInput, IsSourceIn, IsNoProgramIn}
use Rattle.gib_app.specs.SourceFaults.{IsSourceFaultIn}
use Rattle.gib_app.specs.Formats.{inputs_of, dialect_of, Accepts, Refuses}
use Rattle.gib_app.specs.Formats.{Input as PlanInput}
use Rattle.gib_app.specs.Lines.{line, source_text, reason_text, input_text}
use Rattle.gib_app.specs.Jobs.{End, Prints, NoValue, Does, DoesBy, DoesPack, DoesAll, without_image}
use Rattle.gib_app.specs.Causes.{Counts, OnProgram, OnBoth, OnReached, EndsWithout, AsksSource, AsksProgram, IsPrinted, IsPrintedInPart, IsUnread, AreUnread, first_of, further_of, FailsToRead, FailsToWrite}

-- A file that is to be written could not be, `out` was not asked, and the line names the file; or `out` took a front of what
-- is printed, and its count rose.
abbrev pub IsWriteEnding : Bool → List (List ℕ) → ShelfView → ShelfView → SinkView → SinkView → List ℕ → Type 0
IsWriteEnding tells words before now out_before out_now said =
    ((name : List ℕ) × MatchOption (asked words) ⊥ (λ plan. FailsToWrite tells before now plan name) × (out_now ≡ out_before)
    × (said ≡ line (codes "cannot write " ++ name)))
    ⊎ (IsPrintedInPart tells words before now out_before out_now × Rose out_before.faults out_now.faults
    × ((name : List ℕ) → now.writes name ≡ before.writes name)
    × (said ≡ line (codes "cannot write")))

-- Why a call ends with a status, and the line that tells it: what is asked for was made, put and written; the source is no
-- program, by this fault; the words are not taken; the program means no value, for this reason; chunks may run out; this file could
-- not be read, or not be written; the inputs are none that the job accepts, by this fault; the packed file of the result would be too
-- long. Want of memory is free.
abbrev pub IsEnding : Bool → List (List ℕ) → ShelfView → ShelfView → SinkView → SinkView → Status → List ℕ → Type 0
IsEnding tells words before now out_before out_now Done said = IsPrinted tells words before now out_before out_now × (said ≡ [])
IsEnding tells words before now out_before out_now Source said =
    (fault : SourceFault) × AsksSource tells words before.kept (λ dialect bytes. IsSourceFaultIn dialect bytes fault × IsNoProgramIn dialect bytes)
    × (said ≡ line (source_text fault))
IsEnding tells words before now out_before out_now Usage said = (asked words ≡ None) × (said ≡ line (codes "usage"))
IsEnding tells words before now out_before out_now (status.NoValue why) said =
    AsksProgram tells words before.kept (EndsWithout tells before now (Meant why)) × (said ≡ line (reason_text why))
IsEnding tells words before now out_before out_now Full said =
    AsksProgram tells words before.kept (EndsWithout tells before now reason.Full) × (said ≡ line (codes "chunks"))
IsEnding tells words before now out_before out_now Memory said = said ≡ line (codes "memory")
IsEnding tells words before now out_before out_now ReadFault said =
    (name : List ℕ) × MatchOption (asked words) ⊥ (λ plan. FailsToRead (at_reading tells before.kept plan) before now plan name)
    × (said ≡ line (codes "cannot read " ++ name))
IsEnding tells words before now out_before out_now WriteFault said = IsWriteEnding tells words before now out_before out_now said
IsEnding tells words before now out_before out_now Input said =
    (fault : InputFault)
    × MatchOption (asked words) ⊥
    (λ plan. OnReached (at_reading tells before.kept plan) plan
    (λ p names given. Refuses plan.job plan.options p names given fault × (Accepts plan.job plan.options p names given → ⊥)))
    × (said ≡ line (input_text fault))
IsEnding tells words before now out_before out_now Long said =
    AsksProgram tells words before.kept (EndsWithout tells before now reason.Long) × (said ≡ line (codes "result longer than 16777216 bytes"))

-- Not the name of a file that the words ask to write.
abbrev pub IsNoTarget : List (List ℕ) → List ℕ → Type 0
IsNoTarget words name = MatchOption (asked words) ⊤ (λ plan. IsTarget plan name → ⊥)

-- The writes that the words ask for before anything is read.
abbrev pub first_asked : List (List ℕ) → List Write
first_asked words = option_map_or (λ plan. plan.first) (asked words) []

-- What was written of the first writes where no job was done: all of them, and nothing else; where memory ran out, a front of them.
-- At the other statuses their causes say what was written.
abbrev pub StaysAfter : Bool → List Write → (before now : Files) → Status → Type 0
StaysAfter tells first before now Done = ⊤
StaysAfter tells first before now Source = AreMade tells before now first
StaysAfter tells first before now Usage = AreMade tells before now first
StaysAfter tells first before now (status.NoValue why) = ⊤
StaysAfter tells first before now Full = ⊤
StaysAfter tells first before now Memory = (count : ℕ) × AreMade tells before now (take count first)
StaysAfter tells first before now ReadFault = AreMade tells before now first
StaysAfter tells first before now WriteFault = ⊤
StaysAfter tells first before now Input = AreMade tells before now first
StaysAfter tells first before now Long = ⊤

-- The job makes both files, of which this is the first.
abbrev pub MakesBoth : List ℕ → Plan → Program → TextsView → Contents → Type 0
MakesBoth bytes plan p names given = (packed : List ℕ) × (end : End) × DoesAll plan.job plan.options p names given (Some bytes) (Some packed) end

-- Both files of a job are asked for and were made, and memory ran out between their writes: the first one was written, and nothing behind it.
pub record IsBetween (tells : Bool) (kept now : Files) (plan : Plan) (status : Status) : Type 0 where
  pub is : status ≡ Memory
  pub name : List ℕ
  pub named : plan.target ≡ Some name
  pub pack : List ℕ
  pub asks : plan.pack ≡ Some pack
  pub bytes : List ℕ
  pub both : OnBoth kept plan (MakesBoth bytes plan)
  pub made : AreMade tells kept now (record { name = name; bytes = bytes } ∷ [])

-- What names hold stays, but for the files that are to be written; and where no job was done, for those that are written first.
pub record FilesStay (tells : Bool) (words : List (List ℕ)) (before now : Files) (status : Status) : Type 0 where
  pub others : (name : List ℕ) → IsNoTarget words name → now name ≡ before name
  pub same : StaysAfter tells (first_asked words) before now status
      ⊎ MatchOption (asked words) ⊥ (λ plan. IsBetween tells (at_reading tells before plan) now plan status)

-- Counts of reads stay, but where a file could not be read.
abbrev pub ReadsStay : Counts → Counts → Status → Type 0
ReadsStay before now status = status ≢ ReadFault → (name : List ℕ) → now name ≡ before name

-- Counts of writes stay, but where a file could not be written.
abbrev pub WritesStay : Counts → Counts → Status → Type 0
WritesStay before now status = status ≢ WriteFault → (name : List ℕ) → now name ≡ before name

-- With every status but two `out` is as before; at `Done` its count of faults is.
pub record OutStays (before now : SinkView) (status : Status) : Type 0 where
  pub quiet : status ≢ WriteFault → now.faults ≡ before.faults
  pub same : status ≢ Done → status ≢ WriteFault → now ≡ before

-- The way whose end tells how an evaluation ends: with a journal it ends as without, whichever events happen.
abbrev pub ends_in : Way → Way
ends_in ForJournal = ForFiles
ends_in way = way

-- The same of a row.
abbrev pub ends_as : Row → Row
ends_as (Evaluates way) = Evaluates (ends_in way)
ends_as other = other

-- The job ends with a text, where it may leave out an image, and the packed file of its result, where that is asked for, is not too long.
abbrev pub HasText : Plan → Program → TextsView → Contents → Type 0
HasText plan p names given =
    (file : Option (List ℕ)) × (text : List ℕ) × DoesBy (ends_as (row plan.job)) (without_image plan.options) p names given file (Prints text)
    × ((packed : Option (List ℕ)) × DoesPack plan.job plan.options p names given packed (Prints text))

-- The bytes of further inputs, which are told.
abbrev pub AreFurtherTold : Files → List PlanInput → List (List ℕ) → Type 0
AreFurtherTold kept [] further = further ≡ []
AreFurtherTold kept (input ∷ rest) [] = ⊥
AreFurtherTold kept (input ∷ rest) (bytes ∷ further) = (bytes_in kept input.document ≡ Has bytes) × AreFurtherTold kept rest further

-- The bytes of all inputs, which are told.
abbrev pub AreTold : Files → List PlanInput → Contents → Type 0
AreTold kept [] given = (given.second ≡ []) × (given.further ≡ [])
AreTold kept (input ∷ rest) given = (bytes_in kept input.document ≡ Has given.second) × AreFurtherTold kept rest given.further

-- No count rose of a name under which one of the first writes is.
abbrev pub FirstWritten : ShelfView → ShelfView → Plan → Type 0
FirstWritten before now plan = (name : List ℕ) → IsNamedIn plan.first name → Rose (before.writes name) (now.writes name) → ⊥

-- The bytes of the source are told, this holds of them, and the count of its file did not rise, nor that of a first write.
pub record DueOfSource (tells : Bool) (before now : ShelfView) (plan : Plan) (P : List ℕ → Type 0) : Type 0 where
  pub source : List ℕ
  pub source_told : bytes_in (at_reading tells before.kept plan) plan.source ≡ Has source
  pub first_written : FirstWritten before now plan
  pub source_read : (name : List ℕ) → IsUnread before now plan.source name → ⊥
  pub holds : P source

-- The bytes of all files are told, the source is a program, of which this holds with its names and the bytes
-- of the inputs, and no count of these files rose, nor that of a first write.
pub record DueOfFiles (tells : Bool) (before now : ShelfView) (plan : Plan) (P : Program → TextsView → Contents → Type 0) : Type 0 where
  pub source : List ℕ
  pub given : Contents
  pub source_told : bytes_in (at_reading tells before.kept plan) plan.source ≡ Has source
  pub given_told : AreTold (at_reading tells before.kept plan) (inputs_of plan) given
  pub first_written : FirstWritten before now plan
  pub source_read : (name : List ℕ) → IsUnread before now plan.source name → ⊥
  pub given_read : (name : List ℕ) → AreUnread before now (inputs_of plan) name → ⊥
  pub holds : OnProgram (dialect_of plan.job) source (λ p names. P p names given)

-- The first input is not there.
abbrev pub IsMissing : Files → List PlanInput → Type 0
IsMissing kept [] = ⊥
IsMissing kept (input ∷ rest) = bytes_in kept input.document ≡ Missing

-- The bytes of the first input are told, this holds of them, and the count of its file did not rise.
pub record DueOfFirst (tells : Bool) (before now : ShelfView) (plan : Plan) (P : List ℕ → Type 0) : Type 0 where
  pub first : List ℕ
  pub first_told : AreTold (at_reading tells before.kept plan) (first_of (inputs_of plan)) (record { second = first; further = [] })
  pub first_read : (name : List ℕ) → AreUnread before now (first_of (inputs_of plan)) name → ⊥
  pub holds : P first

-- The first input is the packed file of a value that the program of the source takes, and the one behind it is not there.
abbrev pub LacksFurther : Bool → ShelfView → ShelfView → Plan → List ℕ → Type 0
LacksFurther tells before now plan source =
    OnProgram (dialect_of plan.job) source (λ p names. DueOfFirst tells before now plan (λ bytes. (v : Datum) × IsInput p.tree names v bytes))
    × IsMissing (at_reading tells before.kept plan) (further_of (inputs_of plan))

-- The first input is no packed file of a value that the program of the source takes.
abbrev pub RefusesFirst : Bool → ShelfView → ShelfView → Plan → List ℕ → Type 0
RefusesFirst tells before now plan source =
    OnProgram (dialect_of plan.job) source (λ p names. DueOfFirst tells before now plan (λ bytes. ((v : Datum) × IsInput p.tree names v bytes) → ⊥))

-- A file that is to be read is not there: the source; or else the first input, and the source is a program; or else the one behind
-- it.
abbrev pub DueMissing : Bool → ShelfView → ShelfView → Plan → Type 0
DueMissing tells before now plan =
    ((bytes_in (at_reading tells before.kept plan) plan.source ≡ Missing) × FirstWritten before now plan)
    ⊎ (DueOfSource tells before now plan (IsSourceIn (dialect_of plan.job)) × IsMissing (at_reading tells before.kept plan) (inputs_of plan))
    ⊎ DueOfSource tells before now plan (LacksFurther tells before now plan)

-- The counts of `out` and of the files that are to be written did not rise.
pub record TakesAll (before now : ShelfView) (out_before out_now : SinkView) (plan : Plan) : Type 0 where
  pub target : (name : List ℕ) → plan.target ≡ Some name → Rose (before.writes name) (now.writes name) → ⊥
  pub pack : (name : List ℕ) → plan.pack ≡ Some name → Rose (before.writes name) (now.writes name) → ⊥
  pub out : Rose out_before.faults out_now.faults → ⊥

-- The job ends without a value for this reason, where it may leave out an image; and where it makes a file then, the count of its name
-- did not rise.
abbrev pub DueWithout : ShelfView → ShelfView → Reason → Plan → Program → TextsView → Contents → Type 0
DueWithout before now reason plan p names given =
    ((file : Option (List ℕ)) × DoesBy (ends_as (row plan.job)) (without_image plan.options) p names given file (NoValue reason))
    × ((name bytes : List ℕ) → plan.target ≡ Some name → Does plan.job plan.options p names given (Some bytes) (NoValue reason)
    → Rose (before.writes name) (now.writes name) → ⊥)

-- The inputs are none that the job accepts; or the first is none for a replay, whatever the journal is.
abbrev pub DueRefused : Bool → ShelfView → ShelfView → Plan → Type 0
DueRefused tells before now plan =
    DueOfFiles tells before now plan (λ p names given. Accepts plan.job plan.options p names given → ⊥)
    ⊎ ((row plan.job ≡ FollowsJournal) × DueOfSource tells before now plan (RefusesFirst tells before now plan))

-- The status that is due by the words and by the bytes of the files that they name, where these are told and no
-- count on the way rose; a file that is not there is told too.
abbrev pub IsDue : Bool → List (List ℕ) → ShelfView → ShelfView → SinkView → SinkView → Status → Type 0
IsDue tells words before now out_before out_now Done =
    MatchOption (asked words) ⊥
    (λ plan. DueOfFiles tells before now plan (HasText plan) × TakesAll before now out_before out_now plan)
IsDue tells words before now out_before out_now Source =
    MatchOption (asked words) ⊥ (λ plan. DueOfSource tells before now plan (IsNoProgramIn (dialect_of plan.job)))
IsDue tells words before now out_before out_now Usage = asked words ≡ None
IsDue tells words before now out_before out_now (status.NoValue why) =
    MatchOption (asked words) ⊥ (λ plan. DueOfFiles tells before now plan (DueWithout before now (Meant why) plan))
IsDue tells words before now out_before out_now Full =
    MatchOption (asked words) ⊥ (λ plan. (row plan.job ≡ FollowsJournal) × DueOfFiles tells before now plan (DueWithout before now reason.Full plan))
IsDue tells words before now out_before out_now Memory = ⊥
IsDue tells words before now out_before out_now ReadFault = MatchOption (asked words) ⊥ (DueMissing tells before now)
IsDue tells words before now out_before out_now WriteFault = ⊥
IsDue tells words before now out_before out_now Input = MatchOption (asked words) ⊥ (DueRefused tells before now)
IsDue tells words before now out_before out_now Long =
    MatchOption (asked words) ⊥ (λ plan. (row plan.job ≡ Evaluates ForFiles) × DueOfFiles tells before now plan (DueWithout before now reason.Long plan))

-- The words ask to run a core: of the other jobs one alone uses chunks of region memory, and its journal tells whether these run out.
abbrev pub AsksRun : List (List ℕ) → Type 0
AsksRun words = MatchOption (asked words) ⊥ (λ plan. (way : Way) × (row plan.job ≡ Evaluates way) × (way ≢ Plainly))

-- The status is the one that is due; or memory ran out, or chunks of region memory did, in a run.
abbrev pub IsDueOrScarce : List (List ℕ) → (due status : Status) → Type 0
IsDueOrScarce words due status = (status ≡ due) ⊎ (status ≡ Memory) ⊎ ((status ≡ Full) × AsksRun words)
