-- What the inputs of each job are, which are accepted as that, and why others are refused.
use Rattle.gib_base.specs.Texts.{TextsView}
use Rattle.std.specs.Prelude.{ℕ, List, [], ◌∷◌, Option, None, Some, MatchOption, ⊤}
use Rattle.std.specs.Option.{option_map_or}
use Rattle.gib_types.specs.Tree.{Datum}
use Rattle.gib_base.specs.declared.token.Dialect.{Dialect}
use Rattle.gib_base.specs.declared.token.Dialect.TheVariants as dialect
use Rattle.gib_app.specs.Cores.{layouts_asked}
use Rattle.gib_app.specs.declared.input_fault.InputFault.{InputFault}
use Rattle.gib_app.specs.declared.inputs.Format.{Format}
use Rattle.gib_app.specs.declared.inputs.Format.TheVariants.{Packed, Packable, Shown, Journaled}
use Rattle.gib_words.specs.declared.plan.Job.{Job}
use Rattle.gib_words.specs.declared.plan.Options.{Options}
use Rattle.gib_app.specs.Rows.{ForPlaces, Row, Says, Evaluates, PacksValue, ShowsFile, FollowsJournal, row}
use Rattle.gib_words.specs.Plan.{Document, Plan, Contents}
use Rattle.gib_app.specs.Running.{Program, IsInput, IsShownValue}
use Rattle.gib_app.specs.Replaying.{journal_in, OnJournal, Happens}
use Rattle.gib_app.specs.Packing.{IsPackedBy}
use Rattle.gib_app.specs.InputFaults.{IsInputFault, IsReplayFault, IsShowFault, IsPackFault}

-- What the inputs of a row are: a packed file, what is packed, a file that is shown, a packed file and a journal; or there are
-- none.
abbrev pub format_by : Row → Option Format
format_by (Says said) = None
format_by (Evaluates way) = Some Packed
format_by PacksValue = Some Packable
format_by ShowsFile = Some Shown
format_by FollowsJournal = Some Journaled

-- The same of a job.
abbrev pub format_of : Job → Option Format
format_of job = format_by (row job)

-- How the source of a row is read: one alone takes a source that writes its places out.
abbrev pub dialect_by : Row → Dialect
dialect_by (Evaluates ForPlaces) = dialect.Located
dialect_by other = dialect.Source

-- The same of a job.
abbrev pub dialect_of : Job → Dialect
dialect_of job = dialect_by (row job)

-- How many bytes of the first input of that format are read at most.
abbrev pub limit_of : Format → ℕ
limit_of Packed = 16777216
limit_of Packable = 16777216
limit_of Shown = 268435480
limit_of Journaled = 16777216

-- The same of the inputs behind it.
abbrev pub further_limits : Format → List ℕ
further_limits Packed = []
further_limits Packable = []
further_limits Shown = []
further_limits Journaled = 16777216 ∷ []

-- How many bytes of each input of that format are read at most.
abbrev pub limits_of : Format → List ℕ
limits_of format = limit_of format ∷ further_limits format

-- The same of the first input of a job.
abbrev pub most_of : Job → ℕ
most_of job = option_map_or limit_of (format_of job) 0

-- An input: where it comes from, and how many bytes of it are read at most.
pub record Input : Type 0 where
  pub document : Document
  pub most : ℕ

-- As many inputs as there are limits and documents.
abbrev pub with_limits : List ℕ → List Document → List Input
with_limits [] documents = []
with_limits (most ∷ limits) [] = []
with_limits (most ∷ limits) (document ∷ documents) = record { document = document; most = most } ∷ with_limits limits documents

-- The inputs of a plan.
abbrev pub inputs_of : Plan → List Input
inputs_of plan = with_limits (option_map_or limits_of (format_of plan.job) []) plan.inputs

-- The inputs are accepted as that.
-- An image is read by the layouts of the core that the options ask for; what is packed, and how, the flags `--from` and `--v1` tell.
abbrev pub IsAccepted : Format → Options → Program → TextsView → Contents → Type 0
IsAccepted Packed options p names given = (v : Datum) × IsInput p.tree names v given.second
IsAccepted Packable options p names given = (packed : List ℕ) × IsPackedBy options.repacks options.first_version p.tree names given.second packed
IsAccepted Shown options p names given = (v : Datum) × IsShownValue p.tree names (layouts_asked options p.tree) v given.second
IsAccepted Journaled options p names given = OnJournal p.tree names given.second (journal_in given) (Happens p.tree)

-- The inputs are refused as that, for this fault.
abbrev pub IsRefused : Format → Options → Program → TextsView → Contents → InputFault → Type 0
IsRefused Packed options p names given fault = IsInputFault p.tree names given.second fault
IsRefused Packable options p names given fault = IsPackFault options.repacks options.first_version p.tree names given.second fault
IsRefused Shown options p names given fault = IsShowFault p.tree names (layouts_asked options p.tree) given.second fault
IsRefused Journaled options p names given fault = IsReplayFault p.tree names given.second (journal_in given) fault

-- A job accepts its inputs, if it has some.
abbrev pub Accepts : Job → Options → Program → TextsView → Contents → Type 0
Accepts job options p names given = MatchOption (format_of job) ⊤ (λ format. IsAccepted format options p names given)

-- A job refuses its inputs for this fault.
abbrev pub Refuses : Job → Options → Program → TextsView → Contents → InputFault → Type 0
Refuses job options p names given fault = MatchOption (format_of job) ⊥ (λ format. IsRefused format options p names given fault)
