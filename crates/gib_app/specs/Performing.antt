-- What is written, why that fails, and what stays.
use Rattle.std.specs.Prelude.{◌≡◌, ◌≤◌, ◌⊎◌, ℕ, List, [], ◌∷◌, None, Option, Some, MatchOption, Bool}
use Rattle.gib_edge.specs.Causes.{Rose, AppendsPart}
use Rattle.gib_edge.specs.Views.{ShelfView}
use Rattle.gib_script.specs.Script.{World}
use Rattle.gib_app.specs.declared.status.Status.{Status}
use Rattle.gib_app.specs.declared.status.Status.TheVariants as status
use Rattle.gib_app.specs.declared.stop.Stop.{Stop}
use Rattle.gib_app.specs.declared.stop.Stop.TheVariants.{Usage, Source, Unread, Input, NoValue, Memory, Unwritten, Unput}
use Rattle.gib_words.specs.Plan.{Plan, Files}
use Rattle.gib_app.specs.Writes.{at_reading, AreMade, AreWritten, IsTarget}
use Rattle.gib_words.specs.Words.{asked}
use Rattle.gib_app.specs.declared.made.End.{End as KeptEnd}
use Rattle.gib_app.specs.Jobs.{DoesAll}
use Rattle.gib_app.specs.Kept.{EndsByBoth}
use Rattle.gib_app.specs.Calls.{calls_of, calls_asked}
use Rattle.gib_app.specs.Causes.{OnBoth, AsksProgram, EndsWithout, IsPrinted, IsPrintedInPart}
use Rattle.gib_app.specs.Ending.{StaysAfter, IsBetween, FilesStay, ReadsStay, WritesStay, OutStays}
use Rattle.gib_app.specs.Remains.{ComesOfRun}
use Rattle.gib_app.specs.Rows.{row}
use Rattle.gib_app.specs.Stops.{IsStop}
use Rattle.gib_app.specs.Stopping.{answer_for}

-- The job was done, made these files or none, and ends so.
abbrev pub IsDone : Files → Plan → (file packed : Option (List ℕ)) → KeptEnd → Type 0
IsDone kept plan file packed end = OnBoth kept plan (λ p names given. EndsByBoth file packed end (DoesAll plan.job plan.options p names given))

-- Where the job ran in region memory, what it made comes from there.
abbrev pub IsOfRun : Files → Plan → (file : Option (List ℕ)) → KeptEnd → Type 0
IsOfRun kept plan file end = OnBoth kept plan (λ p names given. ComesOfRun (row plan.job) p names plan.options given.second file end)

-- The job was done and its files are written; no count of faults rose.
pub record IsPerformed (tells : Bool) (before now : ShelfView) (plan : Plan) (end : KeptEnd) : Type 0 where
  pub file : Option (List ℕ)
  pub packed : Option (List ℕ)
  pub is_done : IsDone (at_reading tells before.kept plan) plan file packed end
  pub written : AreWritten tells before.kept now.kept plan file packed
  pub reads : (name : List ℕ) → now.reads name ≡ before.reads name
  pub writes : (name : List ℕ) → now.writes name ≡ before.writes name
  pub once : AppendsPart before.calls now.calls (calls_of plan)

-- What names hold stays, but for the files that are to be written.
abbrev pub OthersStay : Plan → Files → Files → Type 0
OthersStay plan before now = (name : List ℕ) → (IsTarget plan name → ⊥) → now name ≡ before name

-- What was written of the first writes where a call stops; or memory ran out between the writes of its job.
abbrev pub StopFiles : Bool → Plan → Files → Files → Stop → Type 0
StopFiles tells plan before now stop =
    StaysAfter tells plan.first before now (answer_for stop).status ⊎ IsBetween tells (at_reading tells before plan) now plan (answer_for stop).status

-- No count of faults falls, and each rises only with the status that tells of it.
pub record StaysBy (before now : ShelfView) (status : Status) : Type 0 where
  pub reads_later : (name : List ℕ) → before.reads name ≤ now.reads name
  pub reads : ReadsStay before.reads now.reads status
  pub writes_later : (name : List ℕ) → before.writes name ≤ now.writes name
  pub writes : WritesStay before.writes now.writes status

-- What the plan asks for was not made, or not written: why, and what was done.
pub record IsUnperformed (tells : Bool) (before now : ShelfView) (plan : Plan) (stop : Stop) : Type 0 where
  pub cause : IsStop tells before now plan stop
  pub others : OthersStay plan before.kept now.kept
  pub files : StopFiles tells plan before.kept now.kept stop
  pub counts : StaysBy before now (answer_for stop).status
  pub once : AppendsPart before.calls now.calls (calls_of plan)

-- Both files of a job are there, and memory ran out between their writes: the first one was written, and nothing behind it.
pub record IsHalfway (tells : Bool) (before now : Files) (plan : Plan) (file packed : Option (List ℕ)) (ended : Status) : Type 0 where
  pub is : ended ≡ status.Memory
  pub name : List ℕ
  pub named : plan.target ≡ Some name
  pub pack : List ℕ
  pub asks : plan.pack ≡ Some pack
  pub bytes : List ℕ
  pub first : file ≡ Some bytes
  pub behind : List ℕ
  pub second : packed ≡ Some behind
  pub made : AreMade tells before now (record { name = name; bytes = bytes } ∷ [])

-- A packed file is written only behind the other file, where that one is asked for.
abbrev pub AreOrdered : Plan → (file packed : Option (List ℕ)) → Type 0
AreOrdered plan file packed = (name : List ℕ) → plan.target ≡ Some name → file ≡ None → packed ≡ None

-- Why a call stops.
abbrev pub IsCallStop : Bool → List (List ℕ) → World → World → Stop → Type 0
IsCallStop tells words before now Usage = asked words ≡ None
IsCallStop tells words before now (Source fault) = MatchOption (asked words) ⊥ (λ plan. IsStop tells before.shelf now.shelf plan (Source fault))
IsCallStop tells words before now (Unread name) = MatchOption (asked words) ⊥ (λ plan. IsStop tells before.shelf now.shelf plan (Unread name))
IsCallStop tells words before now (Input fault) = MatchOption (asked words) ⊥ (λ plan. IsStop tells before.shelf now.shelf plan (Input fault))
IsCallStop tells words before now (NoValue reason) = AsksProgram tells words before.shelf.kept (EndsWithout tells before.shelf now.shelf reason)
IsCallStop tells words before now Memory = Unit {0}
IsCallStop tells words before now (Unwritten name) =
    MatchOption (asked words) ⊥ (λ plan. IsStop tells before.shelf now.shelf plan (Unwritten name)) × (now.out ≡ before.out)
IsCallStop tells words before now Unput =
    IsPrintedInPart tells words before.shelf now.shelf before.out now.out × Rose before.out.faults now.out.faults
    × ((name : List ℕ) → now.shelf.writes name ≡ before.shelf.writes name)

-- What stays where a call ends with a status.
pub record StaysWith (tells : Bool) (words : List (List ℕ)) (before now : World) (status : Status) : Type 0 where
  pub files : FilesStay tells words before.shelf.kept now.shelf.kept status
  pub counts : StaysBy before.shelf now.shelf status
  pub out : OutStays before.out now.out status
  pub calls : AppendsPart before.shelf.calls now.shelf.calls (calls_asked words)

-- What the words ask for was made, written and put.
pub record IsAnswered (tells : Bool) (words : List (List ℕ)) (before now : World) : Type 0 where
  pub printed : IsPrinted tells words before.shelf now.shelf before.out now.out
  pub stays : StaysWith tells words before now status.Done

-- It was not: why, and what stays.
pub record IsUnanswered (tells : Bool) (words : List (List ℕ)) (before now : World) (stop : Stop) : Type 0 where
  pub cause : IsCallStop tells words before now stop
  pub stays : StaysWith tells words before now (answer_for stop).status
