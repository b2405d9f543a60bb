-- Facts of all jobs, by cases.
use Rattle.gib_base.specs.Texts.{TextsView}
use Rattle.std.proofs.Common.{◌≡◌, Bool, refl, ℕ, List, [], ◌∷◌, length, Option, Some, None, MatchOption, ◌⊎◌, inl, inr, ◌≤◌, sym, subst, subst₂, arith}
use Rattle.std.specs.Prelude.{◌≢◌, ⊤}
use Rattle.gib_types.specs.Tree.{Datum}
use Rattle.gib_syntax.specs.Tree.{ProgramTree}
use Rattle.gib_core.specs.Tree.{CoreTree}
use Rattle.gib_code.specs.declared.answer.Answer.TheVariants as answer
use Rattle.gib_locked.specs.declared.journal.Line.{Line}
use Rattle.gib_locked.specs.declared.settings.Settings.{Settings}
use Rattle.gib_app.specs.declared.input_fault.InputFault.{InputFault}
use Rattle.gib_app.specs.declared.made.End.{End as KeptEnd}
use Rattle.gib_app.specs.declared.made.End.TheVariants as ends
use Rattle.gib_app.specs.declared.made.Made.{Made}
use Rattle.gib_app.specs.declared.made.Reason.{Reason}
use Rattle.gib_app.specs.declared.made.Reason.TheVariants.{Meant, Full, Long}
use Rattle.gib_words.specs.declared.plan.Job.{Job}
use Rattle.gib_words.specs.declared.plan.Options.{Options}
use Rattle.gib_app.specs.Rows.{Way, Plainly, ForFiles, ForSummary, ForJournal, ForPlaces, Row, Says, Evaluates, PacksValue, ShowsFile, FollowsJournal, row}
use Rattle.gib_app.specs.declared.inputs.Format.{Format}
use Rattle.gib_app.specs.Formats.{Accepts, IsAccepted, IsRefused, format_by}
use Rattle.gib_words.specs.Plan.{Contents}
use Rattle.gib_app.specs.Replaying.{Happens, IsShownEnd, IsValueless, LacksChunks, OnJournal, journal_in}
use Rattle.gib_app.specs.Running.{Program, FillsUp, FillsUpBy, IsInput, IsShownValue}
use Rattle.gib_app.specs.Jobs.{End, Prints, NoValue, Does, DoesBy, IsSaid, Ran, Replays, Runs, RunsLocated, Sums, Traces, core_of, forks_of, run_forks}
use Rattle.gib_app.specs.Kept.{EndsBy, file_of}
use Rattle.gib_app.specs.MachineRun.{LacksValue, LacksValueBy}
use Rattle.gib_app.specs.Workers.{OnlyFull}
use Rattle.gib_types.specs.Layout.{LaidOut}

-- what the events of a journal lead to, they lead to
on_happens : {names : TextsView} (p : ProgramTree) (input bytes : List ℕ) (P : Datum → Settings → List Line → Type 0) → ((v : Datum) (settings : Settings) (lines : List Line) → P v settings lines → Happens p v settings lines) → OnJournal p names input bytes P
    → OnJournal p names input bytes (Happens p)
on_happens p input bytes P f j = record {
  value = j.value;
  settings = j.settings;
  lines = j.lines;
  is_input = j.is_input;
  is_journal = j.is_journal;
  holds = f j.value j.settings j.lines j.holds;
}

-- inputs of a format are accepted, where there are some
abbrev pub AcceptsBy : Option Format → Options → Program → TextsView → Contents → Type 0
AcceptsBy f o p names given = MatchOption f ⊤ (λ format. IsAccepted format o p names given)

-- they are refused
abbrev pub RefusesBy : Option Format → Options → Program → TextsView → Contents → InputFault → Type 0
RefusesBy f o p names given fault = MatchOption f ⊥ (λ format. IsRefused format o p names given fault)

-- what is said of a value is said of one on an input
said_input : (way : Way) (p : ProgramTree) (names : TextsView) (o : Options) (input text : List ℕ) → IsSaid way p names o input text → (v : Datum) × IsInput p names v input
said_input Plainly p names o input text h = (h.value, h.is_input)
said_input ForFiles p names o input text h = (h.value, h.is_input)
said_input ForSummary p names o input text h = (h.value, h.is_input)
said_input ForJournal p names o input text h = (h.value, h.is_input)
said_input ForPlaces p names o input text h = (h.value, h.is_input)

-- chunks run out for a core
fills_some : (core : Option CoreTree) (forks : ℕ) (p : ProgramTree) (names : TextsView) (o : Options) (input : List ℕ) → MatchOption core ⊥ (λ c. FillsUpBy c p names o.depth forks o.chunks input) → (v : Datum) × IsInput p names v input
fills_some None forks p names o input h = absurd h
fills_some (Some core) forks p names o input h = (h.value, h.is_input)

ran_input : (way : Way) (core : Option CoreTree) (p : ProgramTree) (names : TextsView) (o : Options) (input : List ℕ) (file : Option (List ℕ)) (e : End) → Ran way core p names o input file e → (v : Datum) × IsInput p names v input
ran_input way core p names o input file (Prints text) h = said_input way p names o input text h.1
ran_input way core p names o input file (NoValue (Meant why)) h = (h.1.value, h.1.is_input)
ran_input way core p names o input file (NoValue Full) h = fills_some core (forks_of way o) p names o input h.1
ran_input way core p names o input file (NoValue Long) h = (h.1.value, h.1.is_input)

-- what was made was made of a file that is accepted
pub row_accepts : (r : Row) (o : Options) (p : Program) (names : TextsView) (given : Contents) (file : Option (List ℕ)) (e : End) → DoesBy r o p names given file e → AcceptsBy (format_by r) o p names given
row_accepts (Says said) o p names given file e h = tt {0}
row_accepts (Evaluates way) o p names given file e h = ran_input way (core_of way o p) p.tree names o given.second file e h
row_accepts PacksValue o p names given file (Prints text) h = (h.0, h.2)
row_accepts PacksValue o p names given file (NoValue reason) h = absurd h
row_accepts ShowsFile o p names given file (Prints text) h = (h.1.value, h.1.is_value)
row_accepts ShowsFile o p names given file (NoValue reason) h = absurd h
row_accepts FollowsJournal o p names given file (Prints text) h = on_happens p.tree given.second (journal_in given) (IsShownEnd p.tree names o.image file text) (λ v settings lines e. inl (e.memory, e.ends_with, e.ended)) h
row_accepts FollowsJournal o p names given file (NoValue (Meant why)) h = on_happens p.tree given.second (journal_in given) (IsValueless p.tree why) (λ v settings lines e. inl (e.memory, answer.NoValue why, e.ended)) h.1
row_accepts FollowsJournal o p names given file (NoValue Full) h = on_happens p.tree given.second (journal_in given) (LacksChunks p.tree) (λ v settings lines e. inr e) h.1
row_accepts FollowsJournal o p names given file (NoValue Long) h = absurd h

pub does_accepts : (job : Job) (o : Options) (p : Program) (names : TextsView) (given : Contents) (file : Option (List ℕ)) (e : End) → Does job o p names given file e → Accepts job o p names given
does_accepts job o p names given file e h = row_accepts (row job) o p names given file e h

-- a file whose value is shown is not too long
pub shown_short : {names : TextsView} (p : ProgramTree) (laid : LaidOut) (v : Datum) (bytes : List ℕ) → IsShownValue p names laid v bytes → length bytes ≤ 268435480
shown_short p laid v bytes (inl is) = let short = is.short in omega (arith, short)
shown_short p laid v bytes (inr read) = let few = read.image.formed.few in let long = read.image.formed.long in omega (arith, few, long)

-- chunks run out in the run of a core, or where a journal leads

abbrev pub RunsACore : Row → Type 0
RunsACore r = (way : Way) × (r ≡ Evaluates way) × (way ≢ Plainly)

no_core : (way : Way) (o : Options) (p : Program) (P : CoreTree → Type 0) → MatchOption (core_of way o p) ⊥ P → way ≢ Plainly
no_core way o p P h e = let M : Way → Type 0 = λ w. MatchOption (core_of w o p) ⊥ P in subst M e h

row_full : (r : Row) (o : Options) (p : Program) (names : TextsView) (given : Contents) (file : Option (List ℕ)) → DoesBy r o p names given file (NoValue Full) → RunsACore r ⊎ (r ≡ FollowsJournal)
row_full (Says said) o p names given file h = absurd h
row_full (Evaluates way) o p names given file h = inl (way, refl, no_core way o p (λ c. FillsUpBy c p.tree names o.depth (forks_of way o) o.chunks given.second) h.1)
row_full PacksValue o p names given file h = absurd h
row_full ShowsFile o p names given file h = absurd h
row_full FollowsJournal o p names given file h = inr refl

pub full_runs : (job : Job) (o : Options) (p : Program) (names : TextsView) (given : Contents) (file : Option (List ℕ)) → Does job o p names given file (NoValue Full) → RunsACore (row job) ⊎ (row job ≡ FollowsJournal)
full_runs job o p names given file h = row_full (row job) o p names given file h

-- a run that lacks a value

pub lacks_runs : (p : ProgramTree) (names : TextsView) (o : Options) (input : List ℕ) (why : Reason) → LacksValue p names o (run_forks o) input why → Runs p names o input None (NoValue why)
lacks_runs p names o input (Meant why) h = (refl, h)
lacks_runs p names o input Full h = (refl, h)
lacks_runs p names o input Long h = absurd h

pub lacks_sums : (p : ProgramTree) (names : TextsView) (o : Options) (input : List ℕ) (why : Reason) → LacksValue p names o (run_forks o) input why → Sums p names o input None (NoValue why)
lacks_sums p names o input (Meant why) h = (refl, h)
lacks_sums p names o input Full h = (refl, h)
lacks_sums p names o input Long h = absurd h

-- a core that is written out and lacks a value
pub lacks_located : (core : CoreTree) (p : Program) (names : TextsView) (o : Options) (input : List ℕ) → p.located ≡ Some core → (why : Reason) → LacksValueBy core p.tree names o.depth (run_forks o) o.chunks input why
    → RunsLocated p names o input None (NoValue why)
lacks_located core p names o input is (Meant why) h = (refl, h)
lacks_located core p names o input is Full h =
    let P : Option CoreTree → Type 0 = λ x. MatchOption x ⊥ (λ c. FillsUpBy c p.tree names o.depth (run_forks o) o.chunks input) in (refl, subst P (sym is) h)
lacks_located core p names o input is Long h = absurd h

-- a trace whose chunks run out

pub fills_traces : (p : ProgramTree) (names : TextsView) (o : Options) (input : List ℕ) (why : Reason) → OnlyFull (FillsUp p names o o.fork input) why → Traces p names o input None (NoValue why)
fills_traces p names o input (Meant why) h = absurd h
fills_traces p names o input Full h = (refl, h)
fills_traces p names o input Long h = absurd h

-- a replay whose journal leads to where chunks run out
pub fills_replays : (p : ProgramTree) (names : TextsView) (image : Bool) (input bytes : List ℕ) (why : Reason) → OnlyFull (OnJournal p names input bytes (LacksChunks p)) why →
    Replays p names image (record { second = input; further = bytes ∷ [] }) None (NoValue why)
fills_replays p names image input bytes (Meant why) h = absurd h
fills_replays p names image input bytes Full h = (refl, h)
fills_replays p names image input bytes Long h = absurd h

-- what a job made that makes no file and ends without a value
pub ends_without : (made : Made) (why : Reason) (P : Option (List ℕ) → End → Type 0) → made.file ≡ None → made.end ≡ ends.NoValue why → P None (NoValue why) → EndsBy (file_of made) made.end P
ends_without made why P file end' h =
    let none : file_of made ≡ None = cc in
    let E : Option (List ℕ) → KeptEnd → Type 0 = λ f e. EndsBy f e P in
    subst₂ E (sym none) (sym end') h
