-- From what workers or a journal leave to what the program means.
use Rattle.gib_base.specs.Texts.{TextsView}
use Rattle.std.proofs.Common.{◌≡◌, ◌∙◌, refl, ℕ, ◌≤◌, List, length, Result, Ok, Err, true, ap, sym, subst, subst₂}
use Rattle.gib_types.specs.Layout.{LaidOut}
use Rattle.gib_types.specs.Tree.{Datum}
use Rattle.gib_mem.specs.Memory.{Memory}
use Rattle.gib_packed.specs.declared.root.Root.{Root}
use Rattle.gib_file.specs.Framed.{File}
use Rattle.gib_file.specs.Packed.{Packed, IsPacked}
use Rattle.gib_file.specs.Surveyed.{Surveyed}
use Rattle.gib_syntax.specs.Results as results
use Rattle.gib_syntax.specs.Tree.{ProgramTree}
use Rattle.gib_syntax.specs.Declarations.{table_of_program, input_type, output_type}
use Rattle.gib_syntax.specs.Meaning.{Outcome, Stops, run}
use Rattle.gib_core.specs.Cost.{run_cost}
use Rattle.gib_core.specs.LoweredParts.{LoweredParts}
use Rattle.gib_core.specs.Meaning.{core_run}
use Rattle.gib_core.specs.Parts.{core_of}
use Rattle.gib_core.specs.Tight.{Tight}
use Rattle.gib_core.specs.Tree.{CoreTree}
use Rattle.gib_code.specs.declared.answer.Answer.{Answer}
use Rattle.gib_code.specs.declared.answer.Answer.TheVariants as answer
use Rattle.gib_types.specs.declared.reason.Reason.{Reason as Why}
use Rattle.gib_code.specs.Program.{CodeTree}
use Rattle.gib_lower.specs.Lowering.{lower_program}
use Rattle.gib_load.specs.Placement.{Placement}
use Rattle.gib_weave.specs.Running.{word_of}
use Rattle.gib_weave.specs.Sound.{IsAnswer}
use Rattle.gib_weave.specs.Weave.{weave_start}
use Rattle.gib_locked.specs.JournalText.{journal_text}
use Rattle.gib_locked.specs.Lines.{are_lines}
use Rattle.gib_locked.specs.Replays.{IsAnswered}
use Rattle.gib_locked.specs.declared.journal.Line.{Line}
use Rattle.gib_locked.specs.declared.settings.Settings.{Settings}
use Rattle.gib_app.specs.declared.made.Reason.{Reason}
use Rattle.gib_app.specs.declared.made.Reason.TheVariants as reason
use Rattle.gib_words.specs.declared.plan.Options.{Options}
use Rattle.gib_app.specs.declared.stop.Stop.{Stop}
use Rattle.gib_app.specs.Cores.{core_after, core_asked, layouts_asked, layouts_of}
use Rattle.gib_app.specs.MachineRun.{StandsMeant, IsRootOf}
use Rattle.gib_app.specs.Replaying.{IsEndOf, IsSetBy, IsTrace, core_for, layouts_for, root_in}
use Rattle.gib_app.specs.Running.{FillsUp, IsInput, MeansNone}
use Rattle.gib_app.specs.Stops.{IsRunStop}
use Rattle.gib_app.specs.Workers.{Engine, engine_for, engine_of, start_by, IsEndBy, IsLoaded, IsTraced, IsTraceStop, IsWorkersStop, OnlyFull}
use Rattle.gib_app.proofs.Imaged.{stands_again}
use Rattle.gib_app.proofs.Replays.{stopped_so}
use Rattle.gib_app.proofs.Roots.{answered, input_of, table_laid}
use Rattle.gib_app.proofs.Stopped.{stops_with}
use Rattle.gib_types.specs.declared.access.FieldAccess.{FieldAccess}
use Rattle.gib_core.specs.Low.{laid_of}

-- What was lowered is what runs for the program, and means what the program means.
pub record IsEngineOf (p : ProgramTree) (runs : CoreTree) (l : LoweredParts) : Type 0 where
  pub core : core_of l.core ≡ runs
  pub code : l.code ≡ lower_program runs
  pub laid : l.code.laid ≡ laid_of runs
  pub means : (depth : ℕ) (v : Datum) → core_run (core_of l.core) depth v ≡ run p depth v

abbrev engine : CoreTree → CodeTree → LaidOut → Engine
engine core code laid = record { core = core; code = code; laid = laid }

pub same_engine : (p : ProgramTree) (core : CoreTree) (l : LoweredParts) → IsEngineOf p core l → engine_of l ≡ engine_for core
same_engine p core l of =
    ap (λ (c : CoreTree). engine c l.code l.code.laid) of.core ∙ (ap (λ (c : CodeTree). engine core c l.code.laid) of.code
    ∙ ap (λ (x : LaidOut). engine core (lower_program core) x) of.laid)

core_means : (p : ProgramTree) (core : CoreTree) (l : LoweredParts) → IsEngineOf p core l → (depth : ℕ) (v : Datum) → core_run core depth v ≡ run p depth v
core_means p core l of depth v = sym (ap (λ (c : CoreTree). core_run c depth v) of.core) ∙ of.means depth v

-- An end of what was lowered is one for the program.
pub end_meant : (p : ProgramTree) (l : LoweredParts) (v : Datum) (settings : Settings) (lines : List Line) (m : Memory) (a : Answer) → IsEngineOf p (core_for p settings) l
    → IsEndBy (engine_of l) v settings lines m a → IsEndOf p v settings lines m a
end_meant p l v settings lines m a of h =
    let there : IsEndBy (engine_for (core_for p settings)) v settings lines m a = subst (λ (e : Engine). IsEndBy e v settings lines m a) (same_engine p (core_for p settings) l of) h in
    record {
      goes_in = there.goes_in;
      answered = there.answered;
      means = subst (λ (o : Outcome). IsAnswer (layouts_for p settings) m.cells (results.One (output_type p)) o a) (core_means p (core_for p settings) l of settings.depth v) there.means;
    }

-- The root that is the answer stands for what the program means.
abbrev pub end_stands : {names : TextsView} (p : ProgramTree) (input : List ℕ) (v : Datum) (settings : Settings) (lines : List Line) (m : Memory) (a : Answer) (place : Root) → IsInput p names v input
    → IsEndOf p v settings lines m a → root_in a ≡ Ok place → StandsMeant p names settings.depth input (layouts_for p settings) m.cells place
end_stands p input v settings lines m a place is ended there =
    let laid = layouts_for p settings in
    let owed = run p settings.depth v in
    let P : Result Root Why → Type 0 = λ found. Rattle.std.specs.Prelude.MatchResult found (IsRootOf laid m.cells (output_type p) owed) (λ other. owed ≡ Stops other) in
    let root : IsRootOf laid m.cells (output_type p) owed place = subst P there (answered laid m.cells (output_type p) owed a ended.means) in
    record { value = v; result = root.result; is_input = is; means = root.means; table = table_laid p (core_for p settings) laid refl refl; stands = root.stands }

-- Where there is none, the program means none, for the answer's reason.
pub end_stopped : (p : ProgramTree) (v : Datum) (settings : Settings) (lines : List Line) (m : Memory) (a : Answer) (other : Why) → IsEndOf p v settings lines m a → root_in a ≡ Err other
    → (a ≡ answer.NoValue other) × (run p settings.depth v ≡ Stops other)
end_stopped p v settings lines m a other ended nowhere = stopped_so (layouts_for p settings) m.cells (output_type p) (run p settings.depth v) a ended.means other nowhere

-- What becomes of a value that was loaded.
pub loaded_end : (l : LoweredParts) (v : Datum) (settings js : Settings) (chunks : ℕ) (lines : List Line) (m1 m2 : Memory) (place : Root) (tails : List ℕ) (a : Answer) → js ≡ settings → settings.chunks ≡ chunks
    → IsLoaded l chunks v m1 place tails
    → IsAnswered l.code (weave_start (core_of l.core) l.code m1 (word_of place) settings.depth settings.fork tails) lines m2 a
    → IsAnswer l.code.laid m2.cells (results.One (core_of l.core).main.result) (core_run (core_of l.core) settings.depth v) a → IsEndBy (engine_of l) v js lines m2 a
loaded_end l v settings js chunks lines m1 m2 place tails a same enough loaded answered means =
    let here : IsLoaded l settings.chunks v m1 place tails = subst (λ (n : ℕ). IsLoaded l n v m1 place tails) (sym enough) loaded in
    let there : IsEndBy (engine_of l) v settings lines m2 a = record {
      goes_in = here.few;
      answered = subst (λ (x : Placement). IsAnswered l.code (start_by (engine_of l) settings x) lines m2 a) here.placed answered;
      means = means;
    } in
    subst (λ (s : Settings). IsEndBy (engine_of l) v s lines m2 a) (sym same) there

-- ---- Runs by workers

-- Where chunks run out, so many may not be enough.
pub full_tight : (core : CoreTree) (v : Datum) (o : Options) (settings : Settings) (limit : ℕ) → IsSetBy o settings → limit ≡ o.chunks → Tight limit (run_cost core settings.depth settings.fork v)
    → Tight o.chunks (run_cost core o.depth o.fork v)
full_tight core v o settings limit set enough h =
    let one = subst (λ (n : ℕ). Tight n (run_cost core settings.depth settings.fork v)) enough h in
    subst₂ (λ (d f : ℕ). Tight o.chunks (run_cost core d f v)) set.depth set.fork one

pub traced_run : {names : TextsView} (p : ProgramTree) (o : Options) (input : List ℕ) (s : Surveyed) (l : LoweredParts) (settings : Settings) (lines : List Line) (m : Memory) (a : Answer) → IsEngineOf p (core_asked o p) l
    → length input ≤ 16777216 → IsPacked s.table s.ty s.bytes s.count → ((v : Datum) → Packed s.table s.ty v s.bytes → File (table_of_program p) names.long (input_type p) v input) → IsSetBy o settings
    → ((v : Datum) → Packed s.table s.ty v s.bytes → IsEndBy (engine_of l) v settings lines m a) → IsTraced p names o input settings lines m a
traced_run p o input s l settings lines m a of short packed file set ends =
    let there : IsEngineOf p (core_for p settings) l = subst (λ (b : FieldAccess). IsEngineOf p (core_after b 4 p) l) (sym set.access) of in
    record {
      value = packed.0;
      is_input = input_of p input s short file packed.0 packed.1;
      set = set;
      ended = end_meant p l packed.0 settings lines m a there (ends packed.0 packed.1);
    }

pub traced_stops : (names : TextsView) (p : ProgramTree) (o : Options) (input : List ℕ) (s : Surveyed) (l : LoweredParts) → IsEngineOf p (core_asked o p) l
    → length input ≤ 16777216 → IsPacked s.table s.ty s.bytes s.count → ((v : Datum) → Packed s.table s.ty v s.bytes → File (table_of_program p) names.long (input_type p) v input) → (stop : Stop)
    → ((v : Datum) → Packed s.table s.ty v s.bytes → IsWorkersStop (Tight o.chunks (run_cost (core_of l.core) o.depth o.fork v)) stop) → IsTraceStop p names o input stop
traced_stops names p o input s l of short packed file stop ends = stops_with _ _ _ _ (λ fault h. absurd h) fills stop (ends packed.0 packed.1)
  where
    fills : (why : Reason) → OnlyFull (Tight o.chunks (run_cost (core_of l.core) o.depth o.fork packed.0)) why → OnlyFull (FillsUp p names o o.fork input) why
    fills (reason.Meant other) h = h
    fills reason.Long h = absurd h
    fills reason.Full h = record {
      value = packed.0;
      is_input = input_of {names = names} p input s short file packed.0 packed.1;
      tight = subst (λ (c : CoreTree). Tight o.chunks (run_cost c o.depth o.fork packed.0)) of.core h;
    }

-- Where the input is refused, no worker runs.
pub refused_trace : (p : ProgramTree) (names : TextsView) (o : Options) (input : List ℕ) (stop : Stop) → IsRunStop p names input stop → IsTraceStop p names o input stop
refused_trace p names o input stop h = stops_with _ _ _ _ (λ fault h. h) (λ why h. absurd h) stop h

pub traced_stands : {names : TextsView} (p : ProgramTree) (o : Options) (input : List ℕ) (settings : Settings) (lines : List Line) (m : Memory) (a : Answer) (place : Root) → IsTraced p names o input settings lines m a
    → root_in a ≡ Ok place → StandsMeant p names o.depth input (layouts_asked o p) m.cells place
traced_stands {names} p o input settings lines m a place h there =
    subst₂ (λ (d : ℕ) (b : FieldAccess). StandsMeant p names d input (layouts_of b p) m.cells place) h.set.depth h.set.access (end_stands p input h.value settings lines m a place h.is_input h.ended there)

-- So it is where the code and the memory were handed on.
pub ran_stands : {names : TextsView} (p : ProgramTree) (o : Options) (input : List ℕ) (settings : Settings) (lines : List Line) (m n : Memory) (a : Answer) (other : LaidOut) (place : Root) → IsTraced p names o input settings lines m a
    → other ≡ layouts_asked o p → n ≡ m → root_in a ≡ Ok place → StandsMeant p names o.depth input other n.cells place
ran_stands p o input settings lines m n a other place h e f there =
    stands_again p o.depth input (layouts_asked o p) other m n place place e f refl (traced_stands p o input settings lines m a place h there)

pub traced_none : {names : TextsView} (p : ProgramTree) (o : Options) (input : List ℕ) (settings : Settings) (lines : List Line) (m : Memory) (a : Answer) (other : Why) → IsTraced p names o input settings lines m a → root_in a ≡ Err other
    → MeansNone p names o.depth input other
traced_none p o input settings lines m a other h nowhere = record {
  value = h.value;
  is_input = h.is_input;
  means = subst (λ (d : ℕ). run p d h.value ≡ Stops other) h.set.depth (end_stopped p h.value settings lines m a other h.ended nowhere).1;
}

-- The text of the journal of such a run is a trace.
pub trace_of : {names : TextsView} (p : ProgramTree) (o : Options) (input bytes : List ℕ) (settings : Settings) (lines : List Line) (m : Memory) (a : Answer) → IsTraced p names o input settings lines m a → are_lines lines ≡ true
    → bytes ≡ journal_text settings lines → IsTrace p names o input bytes
trace_of p o input bytes settings lines m a h are is = record {
  value = h.value;
  settings = settings;
  lines = lines;
  memory = m;
  ends_with = a;
  is_input = h.is_input;
  set = h.set;
  are = are;
  text_is = is;
  ended = h.ended;
}
