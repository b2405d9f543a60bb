-- What each job makes.
use Rattle.gib_base.specs.Texts.{TextsView}
use Rattle.std.specs.Prelude.{◌≡◌, ℕ, List, Bool, true, false, nat_lt, if◌then◌else◌, Option, None, Some, MatchOption}
use Rattle.gib_syntax.specs.Tree.{ProgramTree}
use Rattle.gib_core.specs.Tree.{CoreTree}
use Rattle.gib_words.specs.declared.plan.Job.{Job}
use Rattle.gib_words.specs.declared.plan.Options.{Options}
use Rattle.gib_app.specs.declared.made.Reason.{Reason}
use Rattle.gib_app.specs.declared.made.Reason.TheVariants.{Meant, Full, Long}
use Rattle.gib_words.specs.Plan.{Contents}
use Rattle.gib_app.specs.Running.{Program, IsOutput, IsSummary, IsRunImage, IsPackedResult, IsLongResult, MeansNone, FillsUpBy, IsShown}
use Rattle.gib_app.specs.Rows.{Way, Plainly, ForFiles, ForSummary, ForJournal, ForPlaces, Row, Says, Evaluates, PacksValue, ShowsFile, FollowsJournal, row, ok_line}
use Rattle.gib_app.specs.Packing.{IsPackedBy}
use Rattle.gib_app.specs.Cores.{core_asked, layouts_asked}
use Rattle.gib_app.specs.Replaying.{journal_in, IsTrace, OnJournal, IsShownEnd, IsValueless, LacksChunks}

-- How a job ends: with a text that is printed, or with no value to print.
pub data End : Type 0 where
  Prints : List ℕ → End
  NoValue : Reason → End

-- A job that makes no file and ends with a text of which this holds.
abbrev pub OnlyPrints : (List ℕ → Type 0) → Option (List ℕ) → End → Type 0
OnlyPrints P file (Prints text) = (file ≡ None) × P text
OnlyPrints P file (NoValue reason) = ⊥

-- Where an image is asked for, it is the file that a run makes; else there is none.
abbrev pub MakesImage : Bool → ProgramTree → TextsView → Options → List ℕ → Option (List ℕ) → Type 0
MakesImage false p names options input file = file ≡ None
MakesImage true p names options input None = ⊥
MakesImage true p names options input (Some bytes) = IsRunImage p names options input bytes

-- `pack`: the packed file of the value whose text, or whose packed file, this is.
abbrev pub Packs : ProgramTree → TextsView → Options → List ℕ → Option (List ℕ) → End → Type 0
Packs p names options bytes file (Prints text) =
    (packed : List ℕ) × (file ≡ Some packed) × IsPackedBy options.repacks options.first_version p names bytes packed × (text ≡ ok_line)
Packs p names options bytes file (NoValue reason) = ⊥

-- The journal of a run on the input, where there is a file.
abbrev pub MakesTrace : ProgramTree → TextsView → Options → List ℕ → Option (List ℕ) → Type 0
MakesTrace p names options input None = ⊥
MakesTrace p names options input (Some bytes) = IsTrace p names options input bytes

-- The file that an evaluation makes, where it has a value or not: an image goes with a value alone, a journal with either.
abbrev pub MakesOf : Way → (valued : Bool) → ProgramTree → TextsView → Options → List ℕ → Option (List ℕ) → Type 0
MakesOf ForFiles true p names options input file = MakesImage options.image p names options input file
MakesOf ForJournal valued p names options input file = MakesTrace p names options input file
MakesOf way valued p names options input file = file ≡ None

-- What is said of the value that the program means on the input within the depth: a line about it, or its text.
abbrev pub IsSaid : Way → ProgramTree → TextsView → Options → List ℕ → List ℕ → Type 0
IsSaid ForSummary p names options input text = IsSummary p names options.number options.levels options.depth input text
IsSaid way p names options input text = IsOutput p names options.depth input text

-- The core that is run, if one is: the one that the source writes out, or the one that the passes make.
abbrev pub core_of : Way → Options → Program → Option CoreTree
core_of Plainly options p = None
core_of ForPlaces options p = p.located
core_of way options p = Some (core_asked options p.tree)

-- How many forks a run may nest: with one worker each `par` runs in place, but where its journal is kept.
abbrev pub forks_of : Way → Options → ℕ
forks_of ForJournal options = options.fork
forks_of way options = if nat_lt 1 options.workers then options.fork else 0

-- Whether the packed file of a result is asked for: one row alone makes one.
abbrev pub packs_of : Row → Options → Bool
packs_of (Evaluates ForFiles) options = options.packs
packs_of other options = false

-- An evaluation: what is said of the value that the program means on the input within the depth; or it means none; or so many chunks may
-- not be enough for what the run of the core costs; or the packed file of the value would be too long: the other file is made then too.
abbrev pub Ran : Way → Option CoreTree → ProgramTree → TextsView → Options → List ℕ → Option (List ℕ) → End → Type 0
Ran way core p names options input file (Prints text) = MakesOf way true p names options input file × IsSaid way p names options input text
Ran way core p names options input file (NoValue (Meant why)) = MakesOf way false p names options input file × MeansNone p names options.depth input why
Ran way core p names options input file (NoValue Full) =
    (file ≡ None) × MatchOption core ⊥ (λ c. FillsUpBy c p names options.depth (forks_of way options) options.chunks input)
Ran way core p names options input file (NoValue Long) =
    MakesOf way true p names options input file × IsLongResult p names options.depth input × (packs_of (Evaluates way) options ≡ true)

-- `replay`: the text of the value to which the events of the journal lead, and its image, where that is asked for; or they lead to a
-- root that ended without a value; or to where chunks run out.
abbrev pub Replays : ProgramTree → TextsView → (image : Bool) → Contents → Option (List ℕ) → End → Type 0
Replays p names image given file (Prints text) = OnJournal p names given.second (journal_in given) (IsShownEnd p names image file text)
Replays p names image given file (NoValue (Meant why)) = (file ≡ None) × OnJournal p names given.second (journal_in given) (IsValueless p why)
Replays p names image given file (NoValue Full) = (file ≡ None) × OnJournal p names given.second (journal_in given) (LacksChunks p)
Replays p names image given file (NoValue Long) = ⊥

-- What a job of this row makes of the bytes of its inputs, for the program with these names: a file, or none, and its end.
abbrev pub DoesBy : Row → Options → Program → TextsView → Contents → Option (List ℕ) → End → Type 0
DoesBy (Says said) options p names given = OnlyPrints (λ text. text ≡ said options p.tree names)
DoesBy (Evaluates way) options p names given = Ran way (core_of way options p) p.tree names options given.second
DoesBy PacksValue options p names given = Packs p.tree names options given.second
DoesBy ShowsFile options p names given = OnlyPrints (IsShown p.tree names (layouts_asked options p.tree) given.second)
DoesBy FollowsJournal options p names given = Replays p.tree names options.image given

-- The same of a job.
abbrev pub Does : Job → Options → Program → TextsView → Contents → Option (List ℕ) → End → Type 0
Does job options p names given = DoesBy (row job) options p names given

-- The packed file of the value that a run means, where that is asked for and the run ends with a text; else there is none.
abbrev pub PacksResult : Bool → ProgramTree → TextsView → (depth : ℕ) → List ℕ → Option (List ℕ) → End → Type 0
PacksResult false p names depth input packed end = packed ≡ None
PacksResult true p names depth input packed (Prints text) = (bytes : List ℕ) × (packed ≡ Some bytes) × IsPackedResult p names depth input bytes
PacksResult true p names depth input packed (NoValue reason) = packed ≡ None

-- The packed file of its result that a job makes where it ends so, or none.
abbrev pub DoesPack : Job → Options → Program → TextsView → Contents → Option (List ℕ) → End → Type 0
DoesPack job options p names given packed end = PacksResult (packs_of (row job) options) p.tree names options.depth given.second packed end

-- Both files and the end of a job.
abbrev pub DoesAll : Job → Options → Program → TextsView → Contents → (file packed : Option (List ℕ)) → End → Type 0
DoesAll job options p names given file packed end = Does job options p names given file end × DoesPack job options p names given packed end

-- The same options, without an image.
abbrev pub without_image : Options → Options
without_image options = record options { image = false }

-- ---- What the code says of single jobs

-- How many forks it may nest, where no journal is kept.
abbrev pub run_forks : Options → ℕ
run_forks options = forks_of ForFiles options

-- `plain`.
abbrev pub Means : ProgramTree → TextsView → Options → List ℕ → Option (List ℕ) → End → Type 0
Means p names options input = Ran Plainly None p names options input

-- `run`.
abbrev pub Runs : ProgramTree → TextsView → Options → List ℕ → Option (List ℕ) → End → Type 0
Runs p names options input = Ran ForFiles (Some (core_asked options p)) p names options input

-- Both files of a run and its end.
abbrev pub RunsBoth : ProgramTree → TextsView → Options → List ℕ → (file packed : Option (List ℕ)) → End → Type 0
RunsBoth p names options input file packed end = Runs p names options input file end × PacksResult options.packs p names options.depth input packed end

-- `gen`.
abbrev pub Sums : ProgramTree → TextsView → Options → List ℕ → Option (List ℕ) → End → Type 0
Sums p names options input = Ran ForSummary (Some (core_asked options p)) p names options input

-- `trace`.
abbrev pub Traces : ProgramTree → TextsView → Options → List ℕ → Option (List ℕ) → End → Type 0
Traces p names options input = Ran ForJournal (Some (core_asked options p)) p names options input

-- `local`.
abbrev pub RunsLocated : Program → TextsView → Options → List ℕ → Option (List ℕ) → End → Type 0
RunsLocated p names options input = Ran ForPlaces p.located p.tree names options input
