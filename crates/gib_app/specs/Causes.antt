-- What the words of a call ask for, the bytes of its files, and the counts of faults.
use Rattle.gib_base.specs.Texts.{TextsView}
use Rattle.std.specs.Prelude.{◌≡◌, ℕ, ◌⊎◌, List, [], ◌∷◌, length, Option, None, Some, MatchOption, Bool}
use Rattle.gib_edge.specs.Causes.{Rose, IsAllOf, Appends, AppendsPart, PutsPieces, PutsSomePieces}
use Rattle.gib_edge.specs.Views.{ShelfView, SinkView}
use Rattle.gib_types.specs.Tree.{Datum}
use Rattle.gib_base.specs.declared.token.Dialect.{Dialect}
use Rattle.gib_app.specs.declared.made.Reason.{Reason}
use Rattle.gib_words.specs.Plan.{Document, BuiltIn, Named, Plan, Files, bytes_in, Contents}
use Rattle.gib_app.specs.Writes.{at_reading, job_writes, AreWritten, IsStuckIn}
use Rattle.gib_words.specs.Words.{asked}
use Rattle.gib_app.specs.Running.{Program, IsInput, IsProgramIn, IsSourceIn}
use Rattle.gib_app.specs.Formats.{Input, inputs_of, dialect_of}
use Rattle.gib_app.specs.Jobs.{End, Prints, NoValue, Does, DoesPack, DoesAll}

-- How often reads or writes of names have failed.
abbrev pub Counts : Type 0
Counts = List ℕ → ℕ

-- These are the bytes of the document, where those are told; a file that is not there has none.
abbrev pub Holds : Files → Document → List ℕ → Type 0
Holds kept document bytes = IsAllOf (bytes_in kept document) bytes

-- The same of further inputs, in their order.
abbrev pub AreFurther : Files → List Input → List (List ℕ) → Type 0
AreFurther kept [] further = further ≡ []
AreFurther kept (input ∷ rest) [] = ⊥
AreFurther kept (input ∷ rest) (bytes ∷ further) = Holds kept input.document bytes × AreFurther kept rest further

-- The same of all inputs.
abbrev pub AreGiven : Files → List Input → Contents → Type 0
AreGiven kept [] given = (given.second ≡ []) × (given.further ≡ [])
AreGiven kept (input ∷ rest) given = Holds kept input.document given.second × AreFurther kept rest given.further

-- The document has these bytes, of which this holds.
pub record OnSource (kept : Files) (first : Document) (P : List ℕ → Type 0) : Type 0 where
  pub source : List ℕ
  pub source_held : Holds kept first source
  pub holds : P source

-- The source and the inputs have these bytes, of which this holds.
pub record OnFiles (kept : Files) (first : Document) (inputs : List Input) (P : List ℕ → Contents → Type 0) : Type 0 where
  pub source : List ℕ
  pub given : Contents
  pub source_held : Holds kept first source
  pub given_held : AreGiven kept inputs given
  pub holds : P source given

-- The source is a program in a dialect, of which this holds with the texts of its names.
pub record OnProgram (dialect : Dialect) (source : List ℕ) (P : Program → TextsView → Type 0) : Type 0 where
  pub texts : TextsView
  pub program : Program
  pub is_program : IsProgramIn dialect source texts program
  pub holds : P program texts

-- The first input has these bytes; where they are a packed file of a value that the program takes, so have the further ones: else
-- these are not read.
abbrev pub AreReached : Files → Program → TextsView → List Input → Contents → Type 0
AreReached kept p names [] given = (given.second ≡ []) × (given.further ≡ [])
AreReached kept p names (input ∷ rest) given =
    Holds kept input.document given.second × (((v : Datum) × IsInput p.tree names v given.second) → AreFurther kept rest given.further)

-- The source of a plan is a program, of which this holds with its names and the bytes of the inputs, as far as these are read.
pub record OnReached (kept : Files) (plan : Plan) (P : Program → TextsView → Contents → Type 0) : Type 0 where
  pub source : List ℕ
  pub given : Contents
  pub source_held : Holds kept plan.source source
  pub holds : OnProgram (dialect_of plan.job) source (λ p names. AreReached kept p names (inputs_of plan) given × P p names given)

-- The words are taken, and this holds of the bytes of the source that they name, in the dialect in which they are read.
abbrev pub AsksSource : Bool → List (List ℕ) → Files → (Dialect → List ℕ → Type 0) → Type 0
AsksSource tells words kept P = MatchOption (asked words) ⊥ (λ plan. OnSource (at_reading tells kept plan) plan.source (P (dialect_of plan.job)))

-- The source of a plan is a program, of which this holds with its names and the bytes of the inputs.
abbrev pub OnBoth : Files → Plan → (Program → TextsView → Contents → Type 0) → Type 0
OnBoth kept plan P = OnFiles kept plan.source (inputs_of plan) (λ source given. OnProgram (dialect_of plan.job) source (λ p names. P p names given))

-- The words are taken, and the same holds of their plan.
abbrev pub AsksProgram : Bool → List (List ℕ) → Files → (Plan → Program → TextsView → Contents → Type 0) → Type 0
AsksProgram tells words kept P = MatchOption (asked words) ⊥ (λ plan. OnBoth (at_reading tells kept plan) plan (P plan))

-- The job was done and ends so; the file that it made, if any, was written, and then the packed file of its result, if it made one.
pub record IsEnded (tells : Bool) (before now : Files) (plan : Plan) (p : Program) (names : TextsView) (given : Contents) (end : End) : Type 0 where
  pub file : Option (List ℕ)
  pub packed : Option (List ℕ)
  pub does : Does plan.job plan.options p names given file end
  pub packs : DoesPack plan.job plan.options p names given packed end
  pub written : AreWritten tells before now plan file packed

-- Where there is a target, a file was made.
abbrev pub IsStored : (target file : Option (List ℕ)) → Type 0
IsStored None file = Unit {0}
IsStored (Some name) None = ⊥
IsStored (Some name) (Some bytes) = Unit {0}

-- The job was done and ends with a text; the files that it made are written, and each that is asked for is one of them.
pub record IsMade (tells : Bool) (before now : Files) (plan : Plan) (p : Program) (names : TextsView) (given : Contents) (text : List ℕ) : Type 0 where
  pub ended : IsEnded tells before now plan p names given (Prints text)
  pub stored : IsStored plan.target ended.file
  pub stored_packed : IsStored plan.pack ended.packed

-- The job ends without a value, for this reason.
abbrev pub HasNoValue : Reason → Plan → Program → TextsView → Contents → Type 0
HasNoValue reason plan p names given = (file : Option (List ℕ)) × Does plan.job plan.options p names given file (NoValue reason)

-- What the words ask for was made, and `out` took it, whole and nothing else, in pieces; what is to be written is written.
abbrev pub IsPrinted : Bool → List (List ℕ) → ShelfView → ShelfView → SinkView → SinkView → Type 0
IsPrinted tells words before now out_before out_now =
    AsksProgram tells words before.kept
    (λ plan p names given. (text : List ℕ) × IsMade tells before.kept now.kept plan p names given text
    × Appends out_before.taken out_now.taken text × PutsPieces out_before out_now (length text))

-- The same, but `out` took a front alone, and its count rose.
abbrev pub IsPrintedInPart : Bool → List (List ℕ) → ShelfView → ShelfView → SinkView → SinkView → Type 0
IsPrintedInPart tells words before now out_before out_now =
    AsksProgram tells words before.kept
    (λ plan p names given. (text : List ℕ) × IsMade tells before.kept now.kept plan p names given text
    × AppendsPart out_before.taken out_now.taken text × PutsSomePieces out_before out_now (length text))

-- The job ends without a value, for this reason; the file that it made, if any, is written, and no packed file of a result.
abbrev pub EndsWithout : Bool → ShelfView → ShelfView → Reason → Plan → Program → TextsView → Contents → Type 0
EndsWithout tells before now reason plan p names given = IsEnded tells before.kept now.kept plan p names given (NoValue reason)

-- The job makes a file that is to be written under this name, or the packed file of its result, and that write fails.
pub record IsUnwritten (tells : Bool) (before now : ShelfView) (plan : Plan) (p : Program) (names : TextsView) (given : Contents) (name : List ℕ) : Type 0 where
  pub file : Option (List ℕ)
  pub packed : Option (List ℕ)
  pub ending : End
  pub does : DoesAll plan.job plan.options p names given file packed ending
  pub stuck : IsStuckIn tells (at_reading tells before.kept plan) (job_writes plan file packed) before now name

-- The file of this name could not be written: it is one of the first, or one that the job made.
abbrev pub FailsToWrite : Bool → ShelfView → ShelfView → Plan → List ℕ → Type 0
FailsToWrite tells before now plan name =
    IsStuckIn tells before.kept plan.first before now name
    ⊎ OnBoth (at_reading tells before.kept plan) plan (λ p names given. IsUnwritten tells before now plan p names given name)

-- The count of the document's file rose, which has this name.
abbrev pub IsUnread : ShelfView → ShelfView → Document → List ℕ → Type 0
IsUnread before now (BuiltIn bytes) name = ⊥
IsUnread before now (Named file) name = (file ≡ name) × Rose (before.reads name) (now.reads name)

-- The same of one of these inputs.
abbrev pub AreUnread : ShelfView → ShelfView → List Input → List ℕ → Type 0
AreUnread before now [] name = ⊥
AreUnread before now (input ∷ rest) name = IsUnread before now input.document name ⊎ AreUnread before now rest name

-- The first of the inputs.
abbrev pub first_of : List Input → List Input
first_of [] = []
first_of (input ∷ rest) = input ∷ []

-- Those behind it.
abbrev pub further_of : List Input → List Input
further_of [] = []
further_of (input ∷ rest) = rest

-- The source of a plan is a program, and the first input a packed file of a value that it takes.
abbrev pub TakesFirst : Files → Plan → Type 0
TakesFirst kept plan =
    OnFiles kept plan.source (first_of (inputs_of plan))
    (λ source given. OnProgram (dialect_of plan.job) source (λ p names. (v : Datum) × IsInput p.tree names v given.second))

-- The file of this name could not be read: it is the source; or else the first input, and the source is a program; or else a further
-- one, and the first is a packed file of a value that the program takes. These are the files that are read.
abbrev pub FailsToRead : Files → ShelfView → ShelfView → Plan → List ℕ → Type 0
FailsToRead kept before now plan name =
    IsUnread before now plan.source name
    ⊎ (AreUnread before now (first_of (inputs_of plan)) name × OnSource kept plan.source (IsSourceIn (dialect_of plan.job)))
    ⊎ (AreUnread before now (further_of (inputs_of plan)) name × TakesFirst kept plan)
