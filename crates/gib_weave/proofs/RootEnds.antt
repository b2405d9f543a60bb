-- How the root's run ends.
use Rattle.std.proofs.Common.{◌≡◌, inr, ℕ, zero, suc, ◌≤◌, ◌-◌, List, [], ◌∷◌, length, get_or, true, Option, Some, None, refl, sym, ap, subst, ◌∙◌, arith}
use Rattle.std.specs.Prelude.{Result}
use Rattle.gib_types.specs.declared.table.Ty.{Ty}
use Rattle.gib_types.specs.Layout.{LaidOut}
use Rattle.gib_types.specs.Tree.{Datum}
use Rattle.gib_mem.specs.Memory.{Memory, Store, IsBounded, with_drawn}
use Rattle.gib_region.specs.Region.{IsFull}
use Rattle.gib_packed.specs.declared.root.Root.{Root}
use Rattle.gib_packed.specs.Stands.{Stands, a_whole, a_truth, a_tree}
use Rattle.gib_core.specs.Fits.{AllFit}
use Rattle.gib_syntax.specs.Results as results
use Rattle.gib_code.specs.declared.instruction.Entry.{Entry}
use Rattle.gib_core.specs.Low as low
use Rattle.gib_core.specs.Low.{IsLowered, LowFunctions}
use Rattle.gib_core.specs.Meaning.{core_run}
use Rattle.gib_core.specs.LoweredParts.{LoweredParts}
use Rattle.gib_core.specs.Parts.{core_of}
use Rattle.gib_core.specs.Tree.{CoreTree, FunctionTerm}
use Rattle.gib_code.specs.declared.answer.Answer.{Answer}
use Rattle.gib_code.specs.Program.{CodeTree, Runs}
use Rattle.gib_weave.specs.declared.root_run.RunFault.{RunFault}
use Rattle.gib_machine.specs.declared.turn.Turn.{Turn}
use Rattle.gib_machine.specs.declared.turn.Turn.TheVariants as turn
use Rattle.gib_machine.specs.State.{State, widest}
use Rattle.gib_machine.specs.Machine.{next, start_at}
use Rattle.gib_machine.specs.Starting.{started}
use Rattle.gib_machine.specs.Stepping.{with_tails}
use Rattle.gib_machine.proofs.Stands.{ended_one}
use Rattle.gib_weave.specs.Calling.{GoesOn, IsTask, Ran, RootRan, Walked}
use Rattle.gib_weave.specs.Owing.{Owed}
use Rattle.gib_weave.specs.Paying.{Share}
use Rattle.gib_weave.specs.Running.{CanEnd, IsOutcome, IsStart, Kept, RunEnds, WantsMemory, word_of}
use Rattle.gib_weave.specs.Sound.{IsAnswer}
use Rattle.gib_weave.specs.Starting.{IsArgument, root_start}
use Rattle.gib_weave.proofs.Mades.{made_root}
use Rattle.gib_weave.proofs.RootRuns.{root_ran, root_task}

-- the word of a root for which a value stands is the argument
pub argument : (laid : LaidOut) (s : Store) (place : Root) (ty : Ty) (d : Datum) → Stands laid s place ty d → IsArgument laid s ty (word_of place) d
argument laid s _ _ _ (a_whole {z = z} f) = (z, refl, f, refl)
argument laid s _ _ _ (a_truth {b = b}) = (b, refl, refl)
argument laid s _ _ _ (a_tree {z = z} d) = record { end = z; dec = d }

pub same_kept : (v : Memory) → Kept v v
same_kept v = record { grows = record { kept = λ q b e. e }; alone = refl; limit = refl }

went_kept : (core : CoreTree) (code : CodeTree) (owed : Owed) (sh : Share) (v v' : Memory) (s' : State) → GoesOn core code owed sh v s' v' → Kept v v'
went_kept core code owed sh v v' s' o = record { grows = o.grows; alone = o.alone; limit = o.limit }

seen_kept : (v w : Memory) (n : ℕ) → Kept v w → Kept v (with_drawn w n)
seen_kept v w n k = record { grows = k.grows; alone = k.alone; limit = k.limit }

pub ran_kept : (code : CodeTree) (s : State) (v : Memory) (t : IsTask code s v) (s' : State) (v' : Memory) (r : Option Turn) → Ran code s v t s' v' r → Kept v v'
ran_kept code s v t s' v' None x = went_kept t.core code t.owed t.share v v' s' x
ran_kept code s v t s' v' (Some turn.Went) x = absurd x
ran_kept code s v t s' v' (Some turn.AtFork) x = went_kept t.core code t.owed t.share v v' s' x.0
ran_kept code s v t s' v' (Some turn.AtJoin) x = went_kept t.core code t.owed t.share v v' s' x.0
ran_kept code s v t s' v' (Some turn.Ended) x = went_kept t.core code t.owed t.share v v' s' x.0
ran_kept code s v t s' v' (Some turn.Full) x =
    let f : IsFull x.0 v' = x.2 in
    subst (λ (m : Memory). Kept v m) (sym f.same) (seen_kept v x.0 x.0.limit (went_kept t.core code t.owed t.share v x.0 s' x.1))

all_drawn : (w v' : Memory) → IsFull w v' → v'.drawn ≡ v'.limit
all_drawn w v' f = ap (λ (m : Memory). m.drawn) f.same ∙ sym (ap (λ (m : Memory). m.limit) f.same)

module _ (l : LoweredParts) (v : Memory) (place : Root) (tails : List ℕ) (depth : ℕ) (d : Datum) (low : IsLowered (core_of l.core) l.code) (fit : AllFit (core_of l.core)) (runs : Runs l.code) (bd : IsBounded v)
    (st : IsStart l place tails v d) where
  abbrev start : State
  start = root_start (core_of l.core) l.code (word_of place) depth 0 tails

  pub start_task : IsTask l.code (root_start (core_of l.core) l.code (word_of place) depth 0 tails) v
  start_task = root_task (core_of l.core) l.code v (word_of place) depth 0 d tails low fit runs (argument l.code.laid v.cells place (core_of l.core).main.parameter d st.stands) st.owned bd st.loaded

  module _ (al : v.alone ≡ true) (s' : State) (v' : Memory) (r : Option Turn) (steps : ℕ) (walk : Walked l.code (root_start (core_of l.core) l.code (word_of place) depth 0 tails) v steps s' v' r)
      (h : (t : IsTask l.code (root_start (core_of l.core) l.code (word_of place) depth 0 tails) v) → Ran l.code (root_start (core_of l.core) l.code (word_of place) depth 0 tails) v t s' v' r) where
    ran : RootRan (core_of l.core) l.code depth 0 d v.limit s' v' r
    ran = root_ran (core_of l.core) l.code v (word_of place) depth 0 d tails low fit runs (argument l.code.laid v.cells place (core_of l.core).main.parameter d st.stands) st.owned bd al st.loaded s' v' r steps walk h

    -- the root has no level to fork with
    pub root_can_end : CanEnd l.code s' r
    root_can_end = go r ran
      where
        go : (q : Option Turn) → RootRan (core_of l.core) l.code depth 0 d v.limit s' v' q → CanEnd l.code s' q
        go None x = tt
        go (Some turn.Went) x = absurd x
        go (Some turn.AtFork) x = absurd (omega (arith, x))
        go (Some turn.AtJoin) x = absurd x
        go (Some turn.Ended) x = (x.0, x.1)
        go (Some turn.Full) x = tt

    pub root_ends : (o : Result Answer RunFault) → IsOutcome l.code s' r o → RunEnds l depth d v v' o
    root_ends o e = go r e ran (h start_task)
      where
        is : {p : Result Answer RunFault} → o ≡ p → RunEnds l depth d v v' p → RunEnds l depth d v v' o
        is q x = subst (λ (p : Result Answer RunFault). RunEnds l depth d v v' p) (sym q) x

        go : (q : Option Turn) → IsOutcome l.code s' q o → RootRan (core_of l.core) l.code depth 0 d v.limit s' v' q → Ran l.code (root_start (core_of l.core) l.code (word_of place) depth 0 tails) v start_task s' v' q → RunEnds l depth d v v' o
        go None q x y = is q tt
        go (Some turn.Went) q x y = absurd q
        go (Some turn.AtFork) q x y = absurd q
        go (Some turn.AtJoin) q x y = absurd q
        go (Some turn.Ended) q x y = is q.2 (subst (λ (a : Answer). IsAnswer l.code.laid v'.cells (results.One (core_of l.core).main.result) (core_run (core_of l.core) depth d) a) (ended_one (next l.code s') x.0 q.0 x.1 q.1) x.2)
        go (Some turn.Full) q x y = is q (x, all_drawn y.0 v' y.2)

-- Where main starts.

filled : (core : CoreTree) (code : CodeTree) (a : ℕ) (gs : List FunctionTerm) (es : List Entry) → LowFunctions core code a gs es → 1 ≤ length es
filled core code a _ _ (low.main nm rs st sl lo) = omega arith
filled core code a _ _ (low.function nm rs st sl lo later) = omega arith

wide : (core : CoreTree) (code : CodeTree) (a : ℕ) (gs : List FunctionTerm) (es : List Entry) → LowFunctions core code a gs es → 1 ≤ widest es
wide core code a _ _ (low.main nm rs st sl lo) = omega (arith, sl)
wide core code a _ _ (low.function {z = z} {gs = gs} {es = es} nm rs st sl lo later) = let i = wide core code z gs es later in omega (arith, i)

label_at : (core : CoreTree) (code : CodeTree) (a : ℕ) (gs : List FunctionTerm) (es : List Entry) → LowFunctions core code a gs es → (n : ℕ) (d : Entry) → length es ≡ suc n → (get_or es n d).start ≡ start_at es (length gs)
label_at core code a _ _ (low.main nm rs st sl lo) zero d h = refl
label_at core code a _ _ (low.main nm rs st sl lo) (suc n) d h = absurd (omega (arith, h))
label_at core code a _ _ (low.function {z = z} {gs = gs} {es = es} nm rs st sl lo later) zero d h = absurd (let i = filled core code z gs es later in omega (arith, h, i))
label_at core code a _ _ (low.function {z = z} {gs = gs} {es = es} nm rs st sl lo later) (suc n) d h = label_at core code z gs es later n d (omega (arith, h))

label_is : (core : CoreTree) (code : CodeTree) (d : Entry) → IsLowered core code → (get_or code.functions (length code.functions - 1) d).start ≡ start_at code.functions (length core.functions)
label_is core code d lo = label_at core code 0 core.functions code.functions lo.functions (length code.functions - 1) d (let i = filled core code 0 core.functions code.functions lo.functions in omega (arith, i))

pub main_label : (core : CoreTree) (code code' : CodeTree) (fs : List Entry) (d : Entry) → IsLowered core code → fs ≡ code'.functions → code' ≡ code → (get_or fs (length fs - 1) d).start ≡ start_at code.functions (length core.functions)
main_label core code code' fs d lo fe ce =
    subst (λ (es : List Entry). (get_or es (length es - 1) d).start ≡ start_at code.functions (length core.functions)) (sym (fe ∙ ap (λ (q : CodeTree). q.functions) ce)) (label_is core code d lo)

pub is_wide : (core : CoreTree) (code code' : CodeTree) → IsLowered core code → code' ≡ code → 1 ≤ widest code'.functions
is_wide core code code' lo ce = subst (λ (q : CodeTree). 1 ≤ widest q.functions) (sym ce) (wide core code 0 core.functions code.functions lo.functions)

pub made_is_root : (core : CoreTree) (code code' : CodeTree) (label w w' depth level : ℕ) (m : State) → IsLowered core code → code' ≡ code → label ≡ start_at code.functions (length core.functions) → w ≡ w' → m ≡ started code' label (w ∷ []) depth level
    → (tails : List ℕ) → with_tails m tails ≡ root_start core code w' depth level tails
made_is_root core code code' label w w' depth level m lo ce le we me tails =
    ap (λ (q : State). with_tails q tails) me
    ∙ ap (λ (q : CodeTree). with_tails (started q label (w ∷ []) depth level) tails) ce
    ∙ ap (λ (q : ℕ). with_tails (started code q (w ∷ []) depth level) tails) le
    ∙ ap (λ (q : ℕ). with_tails (started code (start_at code.functions (length core.functions)) (q ∷ []) depth level) tails) we
    ∙ made_root core code w' depth level tails lo

outcome_wants : (code : CodeTree) (s : State) (v : Memory) (steps : ℕ) (s' : State) (v' : Memory) (r : Option Turn) (o : Result Answer RunFault) → IsOutcome code s' r o → Walked code s v steps s' v' r → WantsMemory code s v steps v' o
outcome_wants code s v steps s' v' None o e w = subst (WantsMemory code s v steps v') (sym e) (inr (s', w))
outcome_wants code s v steps s' v' (Some turn.Went) o e w = absurd e
outcome_wants code s v steps s' v' (Some turn.AtFork) o e w = absurd e
outcome_wants code s v steps s' v' (Some turn.AtJoin) o e w = absurd e
outcome_wants code s v steps s' v' (Some turn.Ended) o e w = subst (WantsMemory code s v steps v') (sym e.2) tt
outcome_wants code s v steps s' v' (Some turn.Full) o e w = subst (WantsMemory code s v steps v') (sym e) tt

-- The run.
module _ (l : LoweredParts) (v : Memory) (place : Root) (tails : List ℕ) (depth : ℕ) (code : CodeTree) (m : State) (ce : code ≡ l.code) (lo : IsLowered (core_of l.core) l.code) (fit : AllFit (core_of l.core)) (runs : Runs l.code) (bd : IsBounded v)
    (me : (ts : List ℕ) → with_tails m ts ≡ root_start (core_of l.core) l.code (word_of place) depth 0 ts) where
  pub run_task : (d : Datum) → IsStart l place tails v d → IsTask code (with_tails m tails) v
  run_task d st =
      subst (λ (q : CodeTree). IsTask q (with_tails m tails) v) (sym ce)
      (subst (λ (q : State). IsTask l.code q v) (sym (me tails)) (start_task l v place tails depth d lo fit runs bd st))

  module _ (d : Datum) (st : IsStart l place tails v d) (al : v.alone ≡ true) (s' : State) (v' : Memory) (r : Option Turn) (steps : ℕ) (walk : Walked code (with_tails m tails) v steps s' v' r)
      (h : (t : IsTask code (with_tails m tails) v) → Ran code (with_tails m tails) v t s' v' r) where
    root_walk : Walked l.code (root_start (core_of l.core) l.code (word_of place) depth 0 tails) v steps s' v' r
    root_walk = subst (λ (q : State). Walked l.code q v steps s' v' r) (me tails) (subst (λ (q : CodeTree). Walked q (with_tails m tails) v steps s' v' r) ce walk)

    root_task_ran : (t : IsTask l.code (root_start (core_of l.core) l.code (word_of place) depth 0 tails) v) → Ran l.code (root_start (core_of l.core) l.code (word_of place) depth 0 tails) v t s' v' r
    root_task_ran = subst (λ (q : State). (t : IsTask l.code q v) → Ran l.code q v t s' v' r) (me tails) (subst (λ (q : CodeTree). (t : IsTask q (with_tails m tails) v) → Ran q (with_tails m tails) v t s' v' r) ce h)

    outcome : (o : Result Answer RunFault) → IsOutcome code s' r o → IsOutcome l.code s' r o
    outcome o e = subst (λ (q : CodeTree). IsOutcome q s' r o) ce e

    pub run_can_end : CanEnd code s' r
    run_can_end = subst (λ (q : CodeTree). CanEnd q s' r) (sym ce) (root_can_end l v place tails depth d lo fit runs bd st al s' v' r steps root_walk root_task_ran)

    pub run_ends : (o : Result Answer RunFault) → IsOutcome code s' r o → RunEnds l depth d v v' o
    run_ends o e = root_ends l v place tails depth d lo fit runs bd st al s' v' r steps root_walk root_task_ran o (outcome o e)

    pub run_wants : (o : Result Answer RunFault) → IsOutcome code s' r o → WantsMemory l.code (root_start (core_of l.core) l.code (word_of place) depth 0 tails) v steps v' o
    run_wants o e = outcome_wants l.code (root_start (core_of l.core) l.code (word_of place) depth 0 tails) v steps s' v' r o (outcome o e) root_walk

  pub run_keeps : (d : Datum) → IsStart l place tails v d → (s' : State) (v' : Memory) (r : Option Turn) → ((t : IsTask code (with_tails m tails) v) → Ran code (with_tails m tails) v t s' v' r) → Kept v v'
  run_keeps d st s' v' r h = ran_kept code (with_tails m tails) v (run_task d st) s' v' r (h (run_task d st))
