-- How a task begins, and what its end is to whoever began it.
use Rattle.std.proofs.Common.{◌≡◌, ℕ, ◌≤◌, List, [], refl, sym, ap, subst, ◌∙◌, arith}
use Rattle.std.specs.Prelude.{Option, Result, Ok, Err}
use Rattle.std.specs.Vec.{vec_capacity}
use Rattle.gib_types.specs.Tree.{Datum}
use Rattle.gib_syntax.specs.Results as results
use Rattle.gib_mem.specs.Memory.{Memory, fresh, IsBounded}
use Rattle.gib_code.specs.declared.answer.Answer.{Answer}
use Rattle.gib_code.specs.declared.answer.Side.{Side}
use Rattle.gib_code.specs.Program.{CodeTree}
use Rattle.gib_packed.specs.declared.root.Root.{Root}
use Rattle.gib_core.specs.LoweredParts.{LoweredParts, IsWhole}
use Rattle.gib_core.specs.Cost.{run_cost}
use Rattle.gib_core.specs.Meaning.{core_run}
use Rattle.gib_core.specs.Parts.{core_of}
use Rattle.gib_core.specs.Tight.{Tight}
use Rattle.gib_core.specs.Tree.{CoreTree}
use Rattle.gib_machine.specs.State.{State, widest}
use Rattle.gib_machine.specs.Sides.{side_start}
use Rattle.gib_machine.specs.Starting.{waiting_of}
use Rattle.gib_machine.specs.Stepping.{with_tails}
use Rattle.gib_weave.specs.Owing.{Debt}
use Rattle.gib_weave.specs.declared.root_run.RunFault.{RunFault}
use Rattle.gib_weave.specs.declared.root_run.RunFault.TheVariants as fault
use Rattle.gib_weave.specs.Paying.{Bill, root_share, whole_of}
use Rattle.gib_weave.specs.Places.{IsSmall, tail_covers}
use Rattle.gib_weave.specs.Running.{IsStart, word_of}
use Rattle.gib_weave.specs.Starting.{root_start}
use Rattle.gib_weave.specs.Sound.{SideSafe, IsAnswer}
use Rattle.gib_arena.specs.declared.memory.Pass.{Pass}
use Rattle.gib_arena.specs.declared.memory.Arena.{Arena}
use Rattle.gib_arena.specs.declared.view.View.{View}
use Rattle.gib_arena.specs.Bytes.{share}
use Rattle.gib_arena.specs.Cells.{cells_of}
use Rattle.gib_arena.specs.Passes.{view, cells, IsOf}
use Rattle.gib_frame.specs.declared.due.Due.{Due}
use Rattle.gib_frame.specs.declared.due.Ending.{Ending}
use Rattle.gib_frame.specs.declared.due.Ending.TheVariants as ending
use Rattle.gib_frame.specs.declared.ends.Frame.{Frame}
use Rattle.gib_frame.specs.Answers.{IsEnding, IsPaid, drawn_by}
use Rattle.gib_frame.specs.TaskParts.{TaskParts, IsTask}
use Rattle.gib_pool.specs.declared.active.ActiveTask.{ActiveTask}
use Rattle.gib_pool.specs.Frames.{lent_of, AreHere}
use Rattle.gib_pool.specs.Active.{Holds, IsHere, OwesStill, Settles}
use Rattle.gib_pool.specs.Lent.{Lends}
use Rattle.gib_pool.specs.Runs.{IsRun, IsOutcome, pass_memory}
use Rattle.gib_pool.specs.Turn.{owing, Works}
use Rattle.gib_weave.proofs.Bills.{bill_tight, root_bill, root_counted}
use Rattle.gib_weave.proofs.Memories.{bounded_small, tails_apart, tails_have_room}
use Rattle.gib_weave.proofs.RootEnds.{argument}
use Rattle.gib_weave.proofs.Starts.{lowered_main, root_starts}
use Rattle.gib_pool.proofs.Fitting.{starts_within}
use Rattle.gib_pool.proofs.Turns.{begins}
use Rattle.gib_weave.proofs.Cells.{fresh_absent}

-- A task as it is made.
pub record IsMade (j : ActiveTask) (m : State) (ts : List ℕ) (p : Pass) : Type 0 where
  pub machine : j.workspace.value.machine ≡ m
  pub tails : j.workspace.value.tails ≡ ts
  pub pass : j.pass ≡ p
  pub frames : j.workspace.value.frames.items ≡ []

pub active_owes : (l : LoweredParts) (d : Debt) (j : ActiveTask) (m : State) (ts : List ℕ) (p : Pass) → IsMade j m ts p → Works l d (cells p) (drawn_by p) (with_tails m ts) [] → OwesStill l d j
active_owes l d j m ts p is w =
    let state : with_tails j.workspace.value.machine j.workspace.value.tails ≡ with_tails m ts = ap (λ (s : State). with_tails s j.workspace.value.tails) is.machine ∙ ap (with_tails m) is.tails in
    subst (λ (x : Pass). Works l d (cells x) (drawn_by x) (with_tails j.workspace.value.machine j.workspace.value.tails) (lent_of j.workspace.value.frames.items)) (sym is.pass)
    (subst (λ (xs : List (Option Frame)). Works l d (cells p) (drawn_by p) (with_tails j.workspace.value.machine j.workspace.value.tails) (lent_of xs)) (sym is.frames)
    (subst (λ (s : State). Works l d (cells p) (drawn_by p) s []) (sym state) w))

-- A side that is begun owes what it owed when it was split.
pub side_owes : (l : LoweredParts) (d : Debt) (due : Due) (code : CodeTree) (side : Side) (p : Pass) (m : State) (j : ActiveTask) → due.lowered.value ≡ l → code ≡ l.code → due.side.value ≡ side → due.pass.value ≡ p
    → m ≡ side_start code (waiting_of side) → IsMade j m [] p → IsSmall (cells p) → drawn_by p ≡ 0 → SideSafe (core_of due.lowered.value.core) due.lowered.value.code d (cells due.pass.value) (waiting_of due.side.value) → OwesStill l d j
side_owes l d due code side p m j el ec es ep em is small none safe =
    let a = subst (λ (x : LoweredParts). SideSafe (core_of x.core) x.code d (cells due.pass.value) (waiting_of due.side.value)) el safe in
    let b = subst (λ (x : Pass). SideSafe (core_of l.core) l.code d (cells x) (waiting_of due.side.value)) ep a in
    let s = subst (λ (x : Side). SideSafe (core_of l.core) l.code d (cells p) (waiting_of x)) es b in
    let state : m ≡ side_start l.code (waiting_of side) = em ∙ ap (λ (x : CodeTree). side_start x (waiting_of side)) ec in
    active_owes l d j m [] p is (subst (λ (x : State). Works l d (cells p) (drawn_by p) (with_tails x []) []) (sym state)
    (subst (λ (n : ℕ). Works l d (cells p) n (side_start l.code (waiting_of side)) []) (sym none) (begins l d (cells p) (waiting_of side) small s)))

-- The side of a task that was opened owes something.
pub task_debt : (t : TaskParts) (due : Due) → IsTask t → due ≡ t.due → (d : Debt) × SideSafe (core_of due.lowered.value.core) due.lowered.value.code d (cells due.pass.value) (waiting_of due.side.value)
task_debt t due is e =
    let SafeIn : Due → Debt → Type 0 = λ u d. SideSafe (core_of u.lowered.value.core) u.lowered.value.code d (cells u.pass.value) (waiting_of u.side.value) in
    let d = is.owes.0 in
    let a = subst (λ (x : LoweredParts). SideSafe (core_of x.core) x.code d (cells t.pass) (waiting_of t.side)) (sym is.lowered) is.owes.1 in
    let b = subst (λ (x : Pass). SideSafe (core_of t.due.lowered.value.core) t.due.lowered.value.code d (cells x) (waiting_of t.side)) (sym is.pass) a in
    let s = subst (λ (x : Side). SideSafe (core_of t.due.lowered.value.core) t.due.lowered.value.code d (cells t.due.pass.value) (waiting_of x)) (sym is.side) b in
    (d, subst (λ (u : Due). SafeIn u d) (sym e) s)

pub side_ends : (due : Due) (l : LoweredParts) (j : ActiveTask) (e : Ending) (p : Pass) → due.lowered.value ≡ l
    → ((d : Debt) → SideSafe (core_of due.lowered.value.core) due.lowered.value.code d (cells due.pass.value) (waiting_of due.side.value) → OwesStill l d j) → Settles l (λ (d : Debt). OwesStill l d j) e p → IsEnding due p e
side_ends due l j (ending.Answer a) p is owes s = ((λ d safe. subst (λ (x : LoweredParts). IsAnswer x.code.laid (cells p) d.ty d.owed a) (sym is) (s d (owes d safe)).0), λ d safe. (s d (owes d safe)).1)
side_ends due l j ending.Full p is owes s = (s.0, λ d safe. s.1 d (owes d safe))
side_ends due l j ending.NotRun p is owes s = absurd s

pub made_holds : (a : Arena) (l : LoweredParts) (j : ActiveTask) (m : State) (ts : List ℕ) (p : Pass) → IsMade j m ts p → IsOf a p → (view p).branch.out ≡ [] → m.width ≡ widest l.code.functions → m.pars ≡ [] → m.level ≤ vec_capacity j.workspace.value.frames → Holds a l j
made_holds a l j m ts p is of none made pars few = record {
  own = subst (IsOf a) (sym is.pass) of;
  lends = subst (λ (x : Pass). Lends x (lent_of j.workspace.value.frames.items)) (sym is.pass) (subst (λ (xs : List (Option Frame)). Lends p (lent_of xs)) (sym is.frames) record { splits = tt; out = none });
  made = ap (λ (s : State). s.width) is.machine ∙ made;
  within = starts_within (vec_capacity j.workspace.value.frames) (with_tails j.workspace.value.machine j.workspace.value.tails) (ap (λ (s : State). s.pars) is.machine ∙ pars) (let e : j.workspace.value.machine.level ≡ m.level = ap (λ (s : State). s.level) is.machine in omega (arith, e, few));
}

pub made_here : (j : ActiveTask) (mine : List Due) → j.workspace.value.frames.items ≡ [] → j.here ≡ 0 → IsHere j mine
made_here j mine e z = subst (λ (xs : List (Option Frame)). AreHere (lent_of xs) j.here mine) (sym e) (subst (λ n. AreHere [] n mine) (sym z) tt)

-- What the root owes.
abbrev pub root_debt : LoweredParts → (depth level : ℕ) → Datum → Debt
root_debt l depth level d = record { ty = results.One (core_of l.core).main.result; owed = core_run (core_of l.core) depth d; most = whole_of (core_of l.core) depth level d }

pub root_owes : (l : LoweredParts) (v : Memory) (place : Root) (tails : List ℕ) (depth level : ℕ) (d : Datum) → IsWhole l.core l.code → IsBounded v → IsStart l place tails v d
    → Works l (root_debt l depth level d) v.cells v.drawn (root_start (core_of l.core) l.code (word_of place) depth level tails) []
root_owes l v place tails depth level d ok bd st = record {
  own = tail_covers tails;
  bill = root_share (core_of l.core) depth level d v.drawn;
  sides = [];
  safe = root_starts (core_of l.core) l.code (lowered_main (core_of l.core) l.code ok.lowered ok.fits) (tail_covers tails) v.cells (word_of place) depth level d tails
      (argument l.code.laid v.cells place (core_of l.core).main.parameter d st.stands) (tails_have_room v.cells tails st.owned) (tails_apart v.cells tails st.owned) (bounded_small v bd)
      (root_share (core_of l.core) depth level d v.drawn) (root_counted (core_of l.core) depth level d v.drawn st.loaded);
  there = record { there = λ q z e. fresh_absent (sym ((tails_apart v.cells tails st.owned).fresh q z) ∙ e) };
  debts = tt;
  paid = root_bill (core_of l.core) depth level d v.drawn (owing (root_debt l depth level d) []) st.loaded refl;
}

-- Where all chunks were drawn, and by the root, so many may not be enough.
tight : (core : CoreTree) (depth level : ℕ) (d : Datum) (n limit : ℕ) → n ≡ limit → IsPaid (whole_of core depth level d) n → Tight limit (run_cost core depth level d)
tight core depth level d n limit e p = bill_tight core depth level d limit p.owed p.bill (subst (λ (k : ℕ). Bill (whole_of core depth level d) k p.owed p.bill) e p.paid)

-- A task that was begun was run.
pub was_run : (l : LoweredParts) (Has : Debt → Type 0) (e : Ending) (p : Pass) → Settles l Has e p → e ≡ ending.NotRun → ⊥
was_run l Has e p s is = subst (λ (x : Ending). Settles l Has x p) is s

-- A run whose root was run does not want memory.
pub wants_none : (e : Ending) (r : Result Answer RunFault) → IsOutcome e r → r ≡ Err fault.Memory → ⊥
wants_none (ending.Answer a) r told is = absurd cc
wants_none ending.Full r told is = absurd cc
wants_none ending.NotRun r told is = told

-- Where a run says that all chunks are drawn, its first pass drew them.
pub full_drawn : (l : LoweredParts) (Has : Debt → Type 0) (e : Ending) (r : Result Answer RunFault) (p p' : Pass) → IsOutcome e r → r ≡ Err fault.Full → Settles l Has e p → view p' ≡ view p → drawn_by p' ≡ (view p').holding.seen → drawn_by p' ≡ (view p').branch.limit
full_drawn l Has (ending.Answer a) r p p' told is s same all = absurd cc
full_drawn l Has ending.Full r p p' told is s same all = all ∙ (ap (λ (w : View). w.holding.seen) same ∙ (s.0 ∙ sym (ap (λ (w : View). w.branch.limit) same)))
full_drawn l Has ending.NotRun r p p' told is s same all = absurd s

pub root_ends : (l : LoweredParts) (depth level : ℕ) (d : Datum) (j : ActiveTask) (e : Ending) (r : Result Answer RunFault) (v : Memory) (p p' : Pass) → OwesStill l (root_debt l depth level d) j → Settles l (λ (z : Debt). OwesStill l z j) e p
    → v.limit ≡ (view p').branch.limit → view p' ≡ view p → drawn_by p' ≡ (view p').holding.seen → IsOutcome e r → IsRun l depth level d v (pass_memory p') r
root_ends l depth level d j (ending.Answer a) r v p p' owes s limit same all told =
    subst (IsRun l depth level d v (pass_memory p')) (sym told)
    (subst (λ (w : View). IsAnswer l.code.laid (cells_of w.holding) (results.One (core_of l.core).main.result) (core_run (core_of l.core) depth d) a) (sym same) (s (root_debt l depth level d) owes).0)
root_ends l depth level d j ending.Full r v p p' owes s limit same all told =
    let seen : (view p').holding.seen ≡ (view p').branch.limit = ap (λ (w : View). w.holding.seen) same ∙ (s.0 ∙ sym (ap (λ (w : View). w.branch.limit) same)) in
    let drawn : drawn_by p ≡ v.limit = sym (ap (λ (w : View). share w.holding) same) ∙ (all ∙ (seen ∙ sym limit)) in
    subst (IsRun l depth level d v (pass_memory p')) (sym told)
    (tight (core_of l.core) depth level d (drawn_by p) v.limit drawn (s.1 (root_debt l depth level d) owes), seen)
root_ends l depth level d j ending.NotRun r v p p' owes s limit same all told = absurd s
