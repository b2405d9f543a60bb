-- From the end of a run over region memory to what the program means.
use Rattle.gib_base.specs.Texts.{TextsView}
use Rattle.std.proofs.Common.{◌≡◌, ◌∙◌, refl, Bool, ℤ, ℕ, ◌+◌, ◌-◌, ◌*◌, ◌≤◌, List, length, Result, Ok, Err, IfOk, IfErr, MatchResult, sym, ap, subst, subst₂, arith}
use Rattle.gib_types.specs.declared.table.Ty.{Ty}
use Rattle.gib_types.specs.Layout.{LaidOut}
use Rattle.gib_types.specs.Loaded.{Loaded}
use Rattle.gib_types.specs.Table.{Table}
use Rattle.gib_types.specs.Tree.{Datum, whole, truth, con, constructors}
use Rattle.gib_mem.specs.Memory.{Memory, Store}
use Rattle.gib_packed.specs.declared.root.Root.{Root}
use Rattle.gib_packed.specs.declared.root.Root.TheVariants as root
use Rattle.gib_packed.specs.Stands.{Stands, a_whole, a_truth, a_tree}
use Rattle.gib_file.specs.Framed.{File}
use Rattle.gib_file.specs.Packed.{Packed, IsPacked}
use Rattle.gib_file.specs.Surveyed.{Surveyed}
use Rattle.gib_lower.specs.Lowering.{lower_program}
use Rattle.gib_load.specs.Holding.{Holding}
use Rattle.gib_load.specs.Placement.{placed_in, begun, Placement}
use Rattle.gib_load.specs.Preorder.{heads}
use Rattle.gib_load.specs.Refusal.{Refused, at_start, at_head, Spent}
use Rattle.gib_load.proofs.Spots.{heads_limit}
use Rattle.gib_syntax.specs.Results as results
use Rattle.gib_syntax.specs.Tree.{ProgramTree}
use Rattle.gib_syntax.specs.Typing.{one_type}
use Rattle.gib_syntax.specs.Declarations.{table_of_program, input_type, output_type}
use Rattle.gib_syntax.specs.Meaning.{Outcome, Stops, run}
use Rattle.gib_core.specs.Cost.{Cost, run_cost, body_cost}
use Rattle.gib_core.specs.Low.{laid_of}
use Rattle.gib_core.specs.LoweredParts.{LoweredParts}
use Rattle.gib_core.specs.Meaning.{core_run}
use Rattle.gib_core.specs.Parts.{Parts, core_of}
use Rattle.gib_core.specs.Tight.{Tight}
use Rattle.gib_core.specs.Tree.{CoreTree}
use Rattle.gib_code.specs.Program.{CodeTree}
use Rattle.gib_code.specs.declared.answer.Answer.{Answer}
use Rattle.gib_code.specs.declared.answer.Answer.TheVariants as answer
use Rattle.gib_types.specs.declared.reason.Reason.{Reason as Why}
use Rattle.gib_weave.specs.declared.root_run.RunFault.{RunFault}
use Rattle.gib_weave.specs.declared.root_run.RunFault.TheVariants as fault
use Rattle.gib_weave.specs.Running.{IsStart, RunEnds}
use Rattle.gib_pool.specs.Runs.{IsRun}
use Rattle.gib_weave.specs.Sound.{IsAnswer}
use Rattle.gib_weave.proofs.Roots.{no_parts}
use Rattle.gib_arena.specs.declared.sole_mem.SoleMem.{SoleMem}
use Rattle.gib_app.specs.declared.machine_run.Rooted.{Rooted}
use Rattle.gib_app.specs.declared.machine_run.RunStop.{RunStop}
use Rattle.gib_app.specs.declared.machine_run.RunStop.TheVariants as run_stop
use Rattle.gib_app.specs.declared.made.Reason.{Reason}
use Rattle.gib_app.specs.declared.made.Reason.TheVariants as reason
use Rattle.gib_app.specs.declared.stop.Stop.{Stop}
use Rattle.gib_app.specs.declared.stop.Stop.TheVariants.{Usage, Source, Unread, Input, NoValue, Unwritten, Unput}
use Rattle.gib_app.specs.declared.stop.Stop.TheVariants.{Memory as NoMemory}
use Rattle.gib_app.specs.Cores.{core_asked, layouts_asked}
use Rattle.gib_app.specs.Replaying.{root_in}
use Rattle.gib_app.specs.Running.{IsInput}
use Rattle.gib_app.specs.Stops.{IsPackedStop, IsRunStop}
use Rattle.gib_app.specs.MachineRun.{IsRunEnd, cells_of, StandsMeant, RunsFor, LacksValueBy, IsRootOf, Lacks, Halts, EndsWith, OnEnd, OnRan, ended, program_cost}
use Rattle.gib_words.specs.declared.plan.Options.{Options}

-- A value that was loaded is where a run may start.
pub start_of : (l : LoweredParts) (laid : LaidOut) (ty : Ty) (v : Datum) (m : Memory) (place : Root) (tails : List ℕ) → laid ≡ l.code.laid → ty ≡ (core_of l.core).main.parameter
    → Holding laid ty v (record { memory = m; root = place; tails = tails }) → IsStart l place tails m v
start_of l laid ty v m place tails e f h = record {
  stands = subst₂ (λ (x : LaidOut) (t : Ty). Stands x m.cells place t v) e f h.stands;
  owned = h.tails;
  loaded = h.loaded;
}

-- Loading leaves how many chunks there are.
pub placed_limit : (laid : LaidOut) (m : Memory) (v : Datum) → (placed_in laid m v).memory.limit ≡ m.limit
placed_limit laid m (whole z) = refl
placed_limit laid m (truth b) = refl
placed_limit laid m (con k vs) = heads_limit laid (begun m) (heads (con k vs))

pub refused_limit : (laid : LaidOut) (m m' : Memory) (v : Datum) → Refused laid m v m' → m'.limit ≡ m.limit
refused_limit laid m _ v (at_start e full) = refl
refused_limit laid m m' v (at_head st) = ap (λ (x : Memory). x.limit) st.same ∙ heads_limit laid (begun m) st.front

-- Where chunks run out as a value is loaded, they may run out in the run.
enough : (chunks r i k : ℕ) → 4023 * (chunks - 1) ≤ 65 * k → 32 * chunks ≤ 32 * ((r + 0) + 3) + (i + k)
enough chunks r i k h = omega (arith, h)

pub loading_is_tight : (core : CoreTree) (depth forks chunks : ℕ) (v : Datum) → Loaded chunks v → Tight chunks (run_cost core depth forks v)
loading_is_tight core depth forks chunks v h = enough chunks (body_cost core depth forks v).regions (body_cost core depth forks v).items (constructors v) h

pub load_halts : (core : CoreTree) (laid : LaidOut) (depth forks : ℕ) (v : Datum) (m m' : Memory) → Refused laid m v m' → Spent v m' → Tight m.limit (run_cost core depth forks v)
load_halts core laid depth forks v m m' refused spent =
    subst (λ (n : ℕ). Tight n (run_cost core depth forks v)) (refused_limit laid m m' v refused) (loading_is_tight core depth forks m'.limit v spent.loaded)

-- An answer of the machine is a root for what was owed.
module _ (laid : LaidOut) (s : Store) (ty : Ty) (owed : Outcome) where
  pub whole_stands : (z : ℤ) → IsAnswer laid s (results.One ty) owed (answer.Whole z) → IsRootOf laid s ty owed (root.Whole z)
  whole_stands z h = record { result = whole z; means = h.2; stands = subst (λ (t : Ty). Stands laid s (root.Whole z) t (whole z)) (sym (ap one_type h.0)) (a_whole h.1) }

  pub truth_stands : (b : Bool) → IsAnswer laid s (results.One ty) owed (answer.Truth b) → IsRootOf laid s ty owed (root.Truth b)
  truth_stands b h = record { result = truth b; means = h.1; stands = subst (λ (t : Ty). Stands laid s (root.Truth b) t (truth b)) (sym (ap one_type h.0)) a_truth }

  pub tree_stands : (a : ℕ) → IsAnswer laid s (results.One ty) owed (answer.At a) → IsRootOf laid s ty owed (root.At a)
  tree_stands a h = record { result = h.1; means = h.3; stands = subst (λ (t : Ty). Stands laid s (root.At a) t h.1) (sym (ap one_type h.2)) (a_tree {t = record { 0 = h.0 }} h.4.dec) }

-- An answer is a root for what was owed, or says why there is none.
pub answered : (laid : LaidOut) (s : Store) (ty : Ty) (owed : Outcome) (a : Answer) → IsAnswer laid s (results.One ty) owed a → MatchResult (root_in a) (IsRootOf laid s ty owed) (λ other. owed ≡ Stops other)
answered laid s ty owed (answer.Whole z) h = whole_stands laid s ty owed z h
answered laid s ty owed (answer.Truth b) h = truth_stands laid s ty owed b h
answered laid s ty owed (answer.At a) h = tree_stands laid s ty owed a h
answered laid s ty owed (answer.Parts ws) h = absurd (no_parts ty h.0 h.2)
answered laid s ty owed (answer.NoValue why) h = h

-- The run of one worker is one that may nest no forks.
pub alone_is_run : (l : LoweredParts) (depth : ℕ) (v : Datum) (m m' : Memory) (end' : Result Answer RunFault) → RunEnds l depth v m m' end' → IsRun l depth 0 v m m' end'
alone_is_run l depth v m m' (Ok a) h = h
alone_is_run l depth v m m' (Err fault.Full) h = h
alone_is_run l depth v m m' (Err fault.Memory) h = h

-- The answer with which a run ends is such a root, or none.
pub answer_ends : (l : LoweredParts) (depth forks : ℕ) (v : Datum) (m m' : Memory) (end' : Result Answer RunFault) (a : Answer) (found : Result Root Why) → end' ≡ Ok a → found ≡ root_in a → IsRun l depth forks v m m' end'
    → MatchResult found (IsRootOf l.code.laid m'.cells (core_of l.core).main.result (core_run (core_of l.core) depth v)) (λ other. core_run (core_of l.core) depth v ≡ Stops other)
answer_ends l depth forks v m m' end' a found is there ends =
    let owed = core_run (core_of l.core) depth v in
    let ty = (core_of l.core).main.result in
    let ended = subst (λ (e : Result Answer RunFault). IsRun l depth forks v m m' e) is ends in
    subst (λ (o : Result Root Why). MatchResult o (IsRootOf l.code.laid m'.cells ty owed) (λ other. owed ≡ Stops other)) (sym there) (answered l.code.laid m'.cells ty owed a ended)

-- What is packed by the survey's table is so by that of the layouts.
pub packed_in : (l : LoweredParts) (laid : LaidOut) (s : Surveyed) (v : Datum) → laid ≡ l.code.laid → s.table ≡ l.code.laid.table → Packed s.table s.ty v s.bytes → Packed laid.table s.ty v s.bytes
packed_in l laid s v e f p = subst (λ (t : Table). Packed t s.ty v s.bytes) (f ∙ sym (ap (λ (x : LaidOut). x.table) e)) p

-- Loading and then running.
pub loaded_ran : (l : LoweredParts) (laid : LaidOut) (s : Surveyed) (depth forks : ℕ) (m0 m1 m2 : Memory) (place : Root) (tails : List ℕ) (r : Result Answer RunFault) (e : Result Root RunStop)
    → laid ≡ l.code.laid → s.table ≡ l.code.laid.table → s.ty ≡ (core_of l.core).main.parameter
    → ((v : Datum) → Packed laid.table s.ty v s.bytes → record { memory = m1; root = place; tails = tails } ≡ placed_in laid m0 v)
    → ((v : Datum) → Packed laid.table s.ty v s.bytes → Holding laid s.ty v (record { memory = m1; root = place; tails = tails }))
    → ((v : Datum) → IsStart l place tails m1 v → IsRun l depth forks v m1 m2 r) → ((v : Datum) → IsRun l depth forks v m1 m2 r → EndsWith l depth forks m1.limit v m2.cells e)
    → (v : Datum) → Packed s.table s.ty v s.bytes → EndsWith l depth forks m0.limit v m2.cells e
loaded_ran l laid s depth forks m0 m1 m2 place tails r e same table ty placed holds ran ends v p =
    let q = packed_in l laid s v same table p in
    let limit : m1.limit ≡ m0.limit = ap (λ (x : Placement). x.memory.limit) (placed v q) ∙ placed_limit laid m0 v in
    let start = start_of l laid s.ty v m1 place tails same ty (holds v q) in
    subst (λ (n : ℕ). EndsWith l depth forks n v m2.cells e) limit (ends v (ran v start))

-- The run has as many chunks as there were before.
pub loaded_limit : {X E : Type 0} (l : LoweredParts) (laid : LaidOut) (s : Surveyed) (m0 m1 m2 : Memory) (place : Root) (tails : List ℕ) (r : Result X E) → laid ≡ l.code.laid → s.table ≡ l.code.laid.table
    → ((v : Datum) → Packed laid.table s.ty v s.bytes → record { memory = m1; root = place; tails = tails } ≡ placed_in laid m0 v)
    → (v : Datum) → Packed s.table s.ty v s.bytes → m2.limit ≡ m1.limit → IfOk r (λ _. m2.limit ≡ m0.limit)
loaded_limit l laid s m0 m1 m2 place tails (Ok value) same table placed v p kept =
    kept ∙ ap (λ (x : Placement). x.memory.limit) (placed v (packed_in l laid s v same table p)) ∙ placed_limit laid m0 v
loaded_limit l laid s m0 m1 m2 place tails (Err e) same table placed v p kept = tt {0}

-- Loading that stops.
pub load_stops : (l : LoweredParts) (laid : LaidOut) (s : Surveyed) (depth forks : ℕ) (m0 m1 : Memory) → laid ≡ l.code.laid → s.table ≡ l.code.laid.table
    → ((v : Datum) → Packed laid.table s.ty v s.bytes → Refused laid m0 v m1) → ((v : Datum) → Packed laid.table s.ty v s.bytes → Spent v m1)
    → (v : Datum) → Packed s.table s.ty v s.bytes → Tight m0.limit (run_cost (core_of l.core) depth forks v)
load_stops l laid s depth forks m0 m1 same table refused spent v p =
    let q = packed_in l laid s v same table p in
    load_halts (core_of l.core) laid depth forks v m0 m1 (refused v q) (spent v q)

-- A core and layouts that are a program's.
pub record IsOfProgram (p : ProgramTree) (o : Options) (l : LoweredParts) : Type 0 where
  pub core : core_of l.core ≡ core_asked o p
  pub means : (depth : ℕ) (v : Datum) → core_run (core_of l.core) depth v ≡ run p depth v
  pub laid : l.code.laid ≡ layouts_asked o p

-- The layouts of a program's code.
pub table_laid : (p : ProgramTree) (core : CoreTree) (laid : LaidOut) → core.table ≡ table_of_program p → laid ≡ laid_of core → laid.table ≡ table_of_program p
table_laid p core laid same e = ap (λ (x : LaidOut). x.table) e ∙ same

pub record IsOfCore (core : CoreTree) (p : ProgramTree) (l : LoweredParts) : Type 0 where
  pub core_is : core_of l.core ≡ core
  pub means : (depth : ℕ) (v : Datum) → core_run (core_of l.core) depth v ≡ run p depth v
  pub table : l.code.laid.table ≡ table_of_program p
  pub result : core.main.result ≡ output_type p

pub of_program : (p : ProgramTree) (o : Options) (l : LoweredParts) → IsOfProgram p o l → IsOfCore (core_asked o p) p l
of_program p o l of = record { core_is = of.core; means = of.means; table = table_laid p (core_asked o p) l.code.laid refl of.laid; result = refl }

pub root_meant : {names : TextsView} (core : CoreTree) (p : ProgramTree) (depth : ℕ) (input : List ℕ) (v : Datum) (l : LoweredParts) (s : Store) (place : Root) → IsOfCore core p l → IsInput p names v input
    → IsRootOf l.code.laid s (core_of l.core).main.result (core_run (core_of l.core) depth v) place → StandsMeant p names depth input l.code.laid s place
root_meant core p depth input v l s place of is h = record {
  value = v;
  result = h.result;
  is_input = is;
  means = sym (of.means depth v) ∙ h.means;
  table = of.table;
  stands = subst (λ (t : Ty). Stands l.code.laid s place t h.result) (ap (λ (c : CoreTree). c.main.result) of.core_is ∙ of.result) h.stands;
}

lacks_meant : {names : TextsView} (core : CoreTree) (p : ProgramTree) (depth forks chunks : ℕ) (input : List ℕ) (v : Datum) (l : LoweredParts) → IsOfCore core p l → IsInput p names v input → (why : Reason)
    → Lacks (core_run (core_of l.core) depth v) chunks (run_cost (core_of l.core) depth forks v) why → LacksValueBy core p names depth forks chunks input why
lacks_meant core p depth forks chunks input v l of is (reason.Meant other) h = record { value = v; is_input = is; means = sym (of.means depth v) ∙ h }
lacks_meant core p depth forks chunks input v l of is reason.Full h = record {
  value = v;
  is_input = is;
  tight = subst (λ (c : CoreTree). Tight chunks (run_cost c depth forks v)) of.core_is h;
}
lacks_meant core p depth forks chunks input v l of is reason.Long h = h

-- A survey's value is the input.
pub input_of : {names : TextsView} (p : ProgramTree) (input : List ℕ) (s : Surveyed) → length input ≤ 16777216 → ((v : Datum) → Packed s.table s.ty v s.bytes → File (table_of_program p) names.long (input_type p) v input)
    → (v : Datum) → Packed s.table s.ty v s.bytes → IsInput p names v input
input_of p input s short file v q = record { short = short; file = file v q }

-- The run of a core in a program's place, on a survey that is of the input.
module _ (names : TextsView) (core : CoreTree) (p : ProgramTree) (depth forks chunks : ℕ) (input : List ℕ) (s : Surveyed) (l : LoweredParts) (of : IsOfCore core p l) (short : length input ≤ 16777216) (packed : IsPacked s.table s.ty s.bytes s.count) where
  pub ended_meant : ((v : Datum) → Packed s.table s.ty v s.bytes → File (table_of_program p) names.long (input_type p) v input) → (left : Result Rooted RunStop)
      → IfOk left (λ x. (v : Datum) → Packed s.table s.ty v s.bytes → IsRootOf l.code.laid (cells_of x.memory) (core_of l.core).main.result (core_run (core_of l.core) depth v) x.root)
      → IfErr left (λ why. (v : Datum) → Packed s.table s.ty v s.bytes → Halts (core_run (core_of l.core) depth v) chunks (run_cost (core_of l.core) depth forks v) why)
      → IfOk (ended l left) (IsRunEnd core p names depth forks chunks input)
  ended_meant file (Ok x) root halts =
      root_meant {names = names} core p depth input packed.0 l (cells_of x.memory) x.root of (input_of {names = names} p input s short file packed.0 packed.1) (root packed.0 packed.1)
  ended_meant file (Err (run_stop.NoValue why)) root halts =
      lacks_meant {names = names} core p depth forks chunks input packed.0 l of (input_of {names = names} p input s short file packed.0 packed.1) why (halts packed.0 packed.1)
  ended_meant file (Err run_stop.Memory) root halts = tt {0}

-- What holds of the code, and what of the memory that is left, holds of what the run of a program leaves.
pub ended_code : (l : LoweredParts) (left : Result Rooted RunStop) (P : LoweredParts → Type 0) → P l → IfOk (ended l left) (OnRan (λ ran. P ran.lowered))
ended_code l (Ok x) P h = h
ended_code l (Err (run_stop.NoValue why)) P h = tt {0}
ended_code l (Err run_stop.Memory) P h = tt {0}

pub ended_memory : (l : LoweredParts) (left : Result Rooted RunStop) (P : SoleMem → Type 0) → IfOk left (λ x. P x.memory) → IfOk (ended l left) (OnRan (λ ran. P ran.memory))
ended_memory l (Ok x) P h = h
ended_memory l (Err (run_stop.NoValue why)) P h = tt {0}
ended_memory l (Err run_stop.Memory) P h = tt {0}

pub ended_stop : (l : LoweredParts) (left : Result Rooted RunStop) (p : ProgramTree) (names : TextsView) (input : List ℕ) → IfErr (ended l left) (IsRunStop p names input)
ended_stop l (Ok x) p names input = tt {0}
ended_stop l (Err (run_stop.NoValue why)) p names input = tt {0}
ended_stop l (Err run_stop.Memory) p names input = tt {0}

-- The run of a core that is written out, in a program's place.
module _ (core : CoreTree) (p : ProgramTree) (names : TextsView) (runs : RunsFor core p names) where
  -- what is lowered of it
  pub located_of : (checked : Parts) (l : LoweredParts) → core ≡ core_of checked → l.core ≡ checked → l.code ≡ lower_program (core_of checked) → IsOfCore core p l
  located_of checked l same is code =
      let e : core_of l.core ≡ core = ap core_of is ∙ sym same in
      record {
        core_is = e;
        means = λ depth v. ap (λ (c : CoreTree). core_run c depth v) e ∙ runs.means depth v;
        table = ap (λ (c : CodeTree). c.laid.table) code ∙ ap (λ (c : CoreTree). c.table) (sym same) ∙ runs.table;
        result = runs.result;
      }

  -- a survey by its table and the type of its main's parameter
  pub located_file : (table : Table) (ty : Ty) (input : List ℕ) (s : Surveyed) → table ≡ core.table → ty ≡ core.main.parameter → ((v : Datum) → Packed s.table s.ty v s.bytes → File table names.long ty v input)
      → (v : Datum) → Packed s.table s.ty v s.bytes → File (table_of_program p) names.long (input_type p) v input
  located_file table ty input s e f file v q = subst₂ (λ (t : Table) (y : Ty). File t names.long y v input) (e ∙ runs.table) (f ∙ runs.parameter) (file v q)

  pub located_refused : (table : Table) (ty : Ty) (input : List ℕ) (why : Stop) → table ≡ core.table → ty ≡ core.main.parameter → IsPackedStop table names.long ty input why
      → IsPackedStop (table_of_program p) names.long (input_type p) input why
  located_refused table ty input why e f h = subst₂ (λ (t : Table) (y : Ty). IsPackedStop t names.long y input why) (e ∙ runs.table) (f ∙ runs.parameter) h

-- Any value that is the input is the survey's.
module _ {names : TextsView} (p : ProgramTree) (o : Options) (forks : ℕ) (input : List ℕ) (s : Surveyed) (l : LoweredParts) (of : IsOfProgram p o l) (packed : IsPacked s.table s.ty s.bytes s.count)
    (file : (v : Datum) → Packed s.table s.ty v s.bytes → File (table_of_program p) names.long (input_type p) v input)
    (one : (table : Table) (names : List (List ℕ)) (ty : Ty) (v w : Datum) (bytes : List ℕ) → File table names ty v bytes → File table names ty w bytes → v ≡ w) (v : Datum) (is : IsInput p names v input) where
  only_value : packed.0 ≡ v
  only_value = one (table_of_program p) _ (input_type p) packed.0 v input (file packed.0 packed.1) is.file

  only_owed : core_run (core_of l.core) o.depth packed.0 ≡ run p o.depth v
  only_owed = of.means o.depth packed.0 ∙ ap (run p o.depth) only_value

  pub ended_only : (left : Result Rooted RunStop)
      → IfOk left (λ x. (v : Datum) → Packed s.table s.ty v s.bytes → IsRootOf l.code.laid (cells_of x.memory) (core_of l.core).main.result (core_run (core_of l.core) o.depth v) x.root)
      → IfErr left (λ why. (v : Datum) → Packed s.table s.ty v s.bytes → Halts (core_run (core_of l.core) o.depth v) o.chunks (run_cost (core_of l.core) o.depth forks v) why)
      → MatchResult (ended l left) (OnEnd (λ ran. IsRootOf ran.lowered.code.laid (cells_of ran.memory) (output_type p) (run p o.depth v) ran.root) (Lacks (run p o.depth v) o.chunks (program_cost p o forks v))) (λ why. why ≡ NoMemory)
  ended_only (Ok x) root halts =
      let there = root packed.0 packed.1 in
      record {
        result = there.result;
        means = sym only_owed ∙ there.means;
        stands = subst (λ (t : Ty). Stands l.code.laid (cells_of x.memory) x.root t there.result) (ap (λ (c : CoreTree). c.main.result) of.core) there.stands;
      }
  ended_only (Err (run_stop.NoValue why)) root halts =
      let most : run_cost (core_of l.core) o.depth forks packed.0 ≡ program_cost p o forks v = ap (λ (c : CoreTree). run_cost c o.depth forks packed.0) of.core ∙ ap (program_cost p o forks) only_value in
      subst₂ (λ (x : Outcome) (k : Cost). Lacks x o.chunks k why) only_owed most (halts packed.0 packed.1)
  ended_only (Err run_stop.Memory) root halts = refl

-- Where the file is refused, there is no value of which it is the input.
pub refused_only : {names : TextsView} (p : ProgramTree) (input : List ℕ) (v : Datum) → IsInput p names v input → (why : Stop) → IsRunStop p names input why → why ≡ NoMemory
refused_only p input v is Usage h = absurd h
refused_only p input v is (Source fault) h = absurd h
refused_only p input v is (Unread name) h = absurd h
refused_only p input v is (Input fault) h = absurd (h.1 (v, is))
refused_only p input v is (NoValue reason) h = absurd h
refused_only p input v is NoMemory h = refl
refused_only p input v is (Unwritten name) h = absurd h
refused_only p input v is Unput h = absurd h
