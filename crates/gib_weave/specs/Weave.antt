-- A weave: tasks over one memory, and its events.
use Rattle.std.specs.Prelude.{◌≡◌, ℕ, zero, suc, ◌+◌, ◌<◌, ◌≤◌, ◌^◌, List, [], ◌∷◌, ◌++◌, length, get_or, slice_get, slice_set, Option, Some, None, Bool, true, false, ◌&&◌, nat_lt, if◌then◌else◌}
use Rattle.gib_types.specs.declared.table.Ty.{Ty}
use Rattle.gib_syntax.specs.Results as results
use Rattle.gib_syntax.specs.Meaning.{Outcome}
use Rattle.gib_mem.specs.Memory.{Memory, Store, absent, after_puts, after_draw, Reads, AreKnown, Owned as Cells, IsBounded}
use Rattle.gib_region.specs.Region.{Draws}
use Rattle.gib_core.specs.Tree.{CoreTree}
use Rattle.gib_code.specs.declared.answer.Answer.{Answer}
use Rattle.gib_code.specs.Program.{CodeTree}
use Rattle.gib_machine.specs.State.{State, Ask, Silent, Get, Put, Draw, AtFork, AtJoin, Ended}
use Rattle.gib_machine.specs.Machine.{gone, next}
use Rattle.gib_machine.specs.Sides.{Waiting, left_starts, right_of, side_start, takes, joins}
use Rattle.gib_region.specs.Count.{Balanced}
use Rattle.gib_core.specs.Cost.{Cost, nothing, plus}
use Rattle.gib_weave.specs.Owing.{Owed, Debt}
use Rattle.gib_weave.specs.Paying.{Share, done_by}
use Rattle.gib_weave.specs.Places.{Owned}
use Rattle.gib_weave.specs.Sound.{Safe, SideSafe, IsAnswer}
use Rattle.gib_weave.specs.Starting.{root_start}

-- A right side that its task neither joined nor took: it waits, or it is the task of a number.
pub data Status : Type 0 where
  Waits : Waiting → Status
  Runs : ℕ → Status

-- A task runs, has ended with an answer that nobody took, or is joined.
pub data Stage : Type 0 where
  Running : Stage
  Finished : Answer → Stage
  Joined : Stage

-- Its right sides, the newest first.
pub record Task : Type 0 where
  pub state : State
  pub sides : List Status
  pub stage : Stage

-- The tasks by their numbers; task 0 is the root.
pub record Weave : Type 0 where
  pub memory : Memory
  pub tasks : List Task

-- What may happen next, each to the task of a number.
pub data Event : Type 0 where
  Step : ℕ → Event
  Fork : ℕ → Event
  Steal : ℕ → Event
  Take : ℕ → Event
  Finish : ℕ → Event
  Join : ℕ → Event

-- Of a number that no task has, a task that is gone.
abbrev pub no_task : Task
no_task = record {
  state = gone;
  sides = [];
  stage = Joined;
}

-- A task that has ended keeps its answer, and no machine.
abbrev pub ended_task : Answer → Task
ended_task a = record no_task { stage = Finished a }

-- The task of a number.
abbrev pub task : List Task → ℕ → Task
task ts i = get_or ts i no_task

-- The machine of task i goes on over a memory.
abbrev pub moved : Weave → Memory → ℕ → State → Weave
moved w v i m = record { memory = v; tasks = slice_set w.tasks i (record { state = m; sides = (task w.tasks i).sides; stage = Running }) }

-- The machine and the right sides of task i change.
abbrev pub with_sides : Weave → ℕ → State → List Status → Weave
with_sides w i m sts = record { memory = w.memory; tasks = slice_set w.tasks i (record { state = m; sides = sts; stage = Running }) }

-- Each side is begun.
abbrev pub NoneWaits : List Status → Type 0
NoneWaits [] = Unit {0}
NoneWaits (Waits x ∷ sts) = ⊥
NoneWaits (Runs j ∷ sts) = NoneWaits sts

-- The oldest side that waits becomes the task j.
pub data Stolen (j : ℕ) : List Status → Waiting → List Status → Type 0 where
  oldest : {x : Waiting} {sts : List Status} → NoneWaits sts → Stolen j (Waits x ∷ sts) x (Runs j ∷ sts)
  older : {st : Status} {x : Waiting} {sts sts' : List Status} → Stolen j sts x sts' → Stolen j (st ∷ sts) x (st ∷ sts')

-- Neither the task nor the run has ended.
pub record IsOn (w : Weave) (i : ℕ) : Type 0 where
  pub here : (task w.tasks i).stage ≡ Running
  pub root : (task w.tasks 0).stage ≡ Running

-- An event that is enabled, and the weave that it leads to.
pub data Next (code : CodeTree) (w : Weave) : Event → Weave → Type 0 where
  silent : {i : ℕ} {m : State} → IsOn w i → next code (task w.tasks i).state ≡ Silent m → Next code w (Step i) (moved w w.memory i m)
  get : {i a n x : ℕ} {k : ℕ → State} → IsOn w i → next code (task w.tasks i).state ≡ Get a n k → Reads w.memory.cells a (suc n) x → Next code w (Step i) (moved w w.memory i (k x))
  puts : {i a b : ℕ} {bs : List ℕ} {m : State} → IsOn w i → next code (task w.tasks i).state ≡ Put a b bs m → Next code w (Step i) (moved w (after_puts w.memory a (b ∷ bs)) i m)
  draws : {i c : ℕ} {k : ℕ → State} → IsOn w i → next code (task w.tasks i).state ≡ Draw k → Draws w.memory c → Next code w (Step i) (moved w (after_draw w.memory c) i (k c))
  forks : {i : ℕ} → IsOn w i → next code (task w.tasks i).state ≡ AtFork
      → Next code w (Fork i) (with_sides w i (left_starts (task w.tasks i).state (slice_get code.instructions (task w.tasks i).state.ip)) (Waits (right_of (task w.tasks i).state (slice_get code.instructions (task w.tasks i).state.ip)) ∷ (task w.tasks i).sides))
  steals : {i : ℕ} {x : Waiting} {sts : List Status} → IsOn w i → length w.tasks < 2 ^ 32 → Stolen (length w.tasks) (task w.tasks i).sides x sts
      → Next code w (Steal i) (record { memory = w.memory; tasks = (with_sides w i (task w.tasks i).state sts).tasks ++ record { state = side_start code x; sides = []; stage = Running } ∷ [] })
  takes_it : {i : ℕ} {x : Waiting} {sts : List Status} → IsOn w i → next code (task w.tasks i).state ≡ AtJoin → (task w.tasks i).sides ≡ Waits x ∷ sts
      → Next code w (Take i) (with_sides w i (takes (task w.tasks i).state) sts)
  finishes : {i : ℕ} {a : Answer} → IsOn w i → next code (task w.tasks i).state ≡ Ended a
      → Next code w (Finish i) (record { memory = w.memory; tasks = slice_set w.tasks i (ended_task a) })
  joins_it : {i j : ℕ} {sts : List Status} {a : Answer} → IsOn w i → next code (task w.tasks i).state ≡ AtJoin → (task w.tasks i).sides ≡ Runs j ∷ sts → (task w.tasks j).stage ≡ Finished a
      → Next code w (Join i) (record { memory = w.memory; tasks = slice_set (with_sides w i (joins (task w.tasks i).state a) sts).tasks j no_task })

-- A list of events.
pub data Legal (code : CodeTree) : Weave → List Event → Weave → Type 0 where
  none : {w : Weave} → Legal code w [] w
  more : {w w' w'' : Weave} {e : Event} {es : List Event} → Next code w e w' → Legal code w' es w'' → Legal code w (e ∷ es) w''

-- Soundness.

-- What is said of a task: the addresses that are its own, what it owes, what it did and has left, whose right side it is, and how
-- many older ones that task has.
pub record Member : Type 0 where
  pub own : Owned
  pub owed : Owed
  pub share : Share
  pub parent : ℕ
  pub place : ℕ

-- A member for each task, by its number.
abbrev pub Family : Type 0
Family = ℕ → Member

-- The task is not joined yet.
abbrev pub IsThere : Stage → Type 0
IsThere Running = Unit {0}
IsThere (Finished a) = Unit {0}
IsThere Joined = ⊥

-- A right side of task i with so many older ones: whoever begins it is sound, or it is a task of a greater number, and of no other
-- side.
abbrev pub OneSide : CoreTree → CodeTree → Store → List Task → Family → (i p : ℕ) → Debt → Status → Type 0
OneSide core code s ts f i p d (Waits x) = SideSafe core code d s x
OneSide core code s ts f i p d (Runs j) =
    (i < j) × ((f j).parent ≡ i) × ((f j).place ≡ p) × IsThere (task ts j).stage × ((f j).owed.ty ≡ d.ty) × ((f j).owed.all ≡ d.owed)

-- Each right side of task i is so.
abbrev pub AllSides : CoreTree → CodeTree → Store → List Task → Family → ℕ → List Status → List Debt → Type 0
AllSides core code s ts f i [] [] = Unit {0}
AllSides core code s ts f i [] (d ∷ ds) = ⊥
AllSides core code s ts f i (st ∷ sts) [] = ⊥
AllSides core code s ts f i (st ∷ sts) (d ∷ ds) = OneSide core code s ts f i (length sts) d st × AllSides core code s ts f i sts ds

-- A task is sound by its stage.
abbrev pub SoundAs : CoreTree → CodeTree → Store → List Task → Family → ℕ → Member → Task → Stage → Type 0
SoundAs core code s ts f i b t Running = Safe core code b.owed b.own b.share s t.state × AllSides core code s ts f i t.sides b.owed.sides
SoundAs core code s ts f i b t (Finished a) = IsAnswer code.laid s b.owed.ty b.owed.all a
SoundAs core code s ts f i b t Joined = Unit {0}

-- Task i is sound.
abbrev pub IsSound : CoreTree → CodeTree → Store → List Task → Family → ℕ → Type 0
IsSound core code s ts f i = SoundAs core code s ts f i (f i) (task ts i) (task ts i).stage

-- The count, over all tasks.

-- What the right sides that wait may cost.
abbrev pub waiting_costs : List Status → List Debt → Cost
waiting_costs [] ds = nothing
waiting_costs (st ∷ sts) [] = nothing
waiting_costs (Waits x ∷ sts) (d ∷ ds) = plus d.most (waiting_costs sts ds)
waiting_costs (Runs j ∷ sts) (d ∷ ds) = waiting_costs sts ds

-- What a task did and has left, and what those of its right sides may cost that wait.
abbrev pub bill_of : Member → List Status → Cost
bill_of b sts = plus (plus (done_by b.share.count) b.share.rest) (waiting_costs sts b.owed.sides)

-- The bill of task i.
abbrev pub bill_at : List Task → Family → ℕ → Cost
bill_at ts f i = bill_of (f i) (task ts i).sides

-- The sum of the first n.
abbrev pub total : (ℕ → ℕ) → ℕ → ℕ
total g zero = 0
total g (suc n) = g n + total g n

-- Each task is balanced, all bills together are no more than the whole, and the tasks drew what was drawn; nobody else draws.
pub record Shared (whole : Cost) (w : Weave) (f : Family) : Type 0 where
  pub balanced : (i : ℕ) → Balanced (f i).share.count
  pub regions : total (λ i. (bill_at w.tasks f i).regions) (length w.tasks) ≤ whole.regions
  pub items : total (λ i. (bill_at w.tasks f i).items) (length w.tasks) ≤ whole.items
  pub drawn : total (λ i. (f i).share.count.drawn) (length w.tasks) ≡ w.memory.drawn
  pub alone : w.memory.alone ≡ true

-- Each task is sound over one store; no address is two tasks' own; what is owned is drawn; the root owes this outcome; what was
-- done and is left is no more than the whole.
pub record Sound (core : CoreTree) (code : CodeTree) (ty : Ty) (o : Outcome) (whole : Cost) (w : Weave) : Type 0 where
  pub family : Family
  pub tasks : (i : ℕ) → IsSound core code w.memory.cells w.tasks family i
  pub apart : (i j q : ℕ) → 0 < (family i).own q → 0 < (family j).own q → i ≡ j
  pub drawn : (i q : ℕ) → 0 < (family i).own q → w.memory.cells q ≡ absent → ⊥
  pub bounded : IsBounded w.memory
  pub root : IsThere (task w.tasks 0).stage
  pub type : (family 0).owed.ty ≡ results.One ty
  pub owes : (family 0).owed.all ≡ o
  pub shared : Shared whole w family

-- The weave of the root alone.
abbrev pub weave_start : CoreTree → CodeTree → Memory → (w depth level : ℕ) → List ℕ → Weave
weave_start core code v w depth level tails = record { memory = v; tasks = record { state = root_start core code w depth level tails; sides = []; stage = Running } ∷ [] }

-- What is enabled, and what is picked.

-- The task can make a step.
abbrev pub IsAction : Ask → Type 0
IsAction (Silent m) = Unit {0}
IsAction (Get a n k) = Unit {0}
IsAction (Put a b bs m) = Unit {0}
IsAction (Draw k) = Unit {0}
IsAction AtFork = ⊥
IsAction AtJoin = ⊥
IsAction (Ended a) = ⊥

-- The task has ended.
abbrev pub IsEnd : Ask → Type 0
IsEnd (Silent m) = ⊥
IsEnd (Get a n k) = ⊥
IsEnd (Put a b bs m) = ⊥
IsEnd (Draw k) = ⊥
IsEnd AtFork = ⊥
IsEnd AtJoin = ⊥
IsEnd (Ended a) = Unit {0}

-- A side waits.
abbrev pub HasWaiting : List Status → Type 0
HasWaiting [] = ⊥
HasWaiting (Waits x ∷ sts) = Unit {0}
HasWaiting (Runs j ∷ sts) = HasWaiting sts

-- The newest side waits.
abbrev pub NewestWaits : List Status → Type 0
NewestWaits [] = ⊥
NewestWaits (Waits x ∷ sts) = Unit {0}
NewestWaits (Runs j ∷ sts) = ⊥

-- The task has ended, and is not joined.
abbrev pub IsFinished : Stage → Type 0
IsFinished Running = ⊥
IsFinished (Finished a) = Unit {0}
IsFinished Joined = ⊥

-- The newest side is a task that has ended.
abbrev pub NewestFinished : List Task → List Status → Type 0
NewestFinished ts [] = ⊥
NewestFinished ts (Waits x ∷ sts) = ⊥
NewestFinished ts (Runs j ∷ sts) = IsFinished (task ts j).stage

-- What task i asks next.
abbrev pub asks : CodeTree → Weave → ℕ → Ask
asks code w i = next code (task w.tasks i).state

-- The event is a step, and its action is so.
abbrev pub StepsBy : (Ask → Type 0) → CodeTree → Weave → Event → Type 0
StepsBy IsSo code w (Step i) = IsSo (asks code w i)
StepsBy IsSo code w (Fork i) = ⊥
StepsBy IsSo code w (Steal i) = ⊥
StepsBy IsSo code w (Take i) = ⊥
StepsBy IsSo code w (Finish i) = ⊥
StepsBy IsSo code w (Join i) = ⊥

-- The event may happen.
abbrev pub Enabled : CodeTree → Weave → Event → Type 0
Enabled code w (Step i) = IsOn w i × IsAction (asks code w i)
Enabled code w (Fork i) = IsOn w i × (asks code w i ≡ AtFork)
Enabled code w (Steal i) = IsOn w i × (length w.tasks < 2 ^ 32) × HasWaiting (task w.tasks i).sides
Enabled code w (Take i) = IsOn w i × (asks code w i ≡ AtJoin) × NewestWaits (task w.tasks i).sides
Enabled code w (Finish i) = IsOn w i × IsEnd (asks code w i)
Enabled code w (Join i) = IsOn w i × (asks code w i ≡ AtJoin) × NewestFinished w.tasks (task w.tasks i).sides

-- The event of a task, other than a steal.
abbrev pub pick_at_stage : ℕ → Stage → Option Event
pick_at_stage i Running = None
pick_at_stage i (Finished a) = Some (Join i)
pick_at_stage i Joined = None

-- At a join: the newest side is taken, or joined if its task has ended.
abbrev pub pick_at_join : List Task → ℕ → List Status → Option Event
pick_at_join ts i [] = None
pick_at_join ts i (Waits x ∷ sts) = Some (Take i)
pick_at_join ts i (Runs j ∷ sts) = pick_at_stage i (task ts j).stage

-- By what the task asks.
abbrev pub pick_by : List Task → ℕ → List Status → Ask → Option Event
pick_by ts i sts (Silent m) = Some (Step i)
pick_by ts i sts (Get a n k) = Some (Step i)
pick_by ts i sts (Put a b bs m) = Some (Step i)
pick_by ts i sts (Draw k) = Some (Step i)
pick_by ts i sts AtFork = Some (Fork i)
pick_by ts i sts AtJoin = pick_at_join ts i sts
pick_by ts i sts (Ended a) = Some (Finish i)

-- By its stage.
abbrev pub pick_running : CodeTree → Weave → ℕ → Stage → Option Event
pick_running code w i Running = pick_by w.tasks i (task w.tasks i).sides (asks code w i)
pick_running code w i (Finished a) = None
pick_running code w i Joined = None

-- None once the root has ended.
abbrev pub pick_on : CodeTree → Weave → ℕ → Stage → Option Event
pick_on code w i Running = pick_running code w i (task w.tasks i).stage
pick_on code w i (Finished a) = None
pick_on code w i Joined = None

-- The event of a task, other than a steal, that may happen.
abbrev pub pick_of : CodeTree → Weave → ℕ → Option Event
pick_of code w i = pick_on code w i (task w.tasks 0).stage

-- The first that there is.
abbrev pub or_else : Option Event → Option Event → Option Event
or_else None e = e
or_else (Some d) e = Some d

-- The first such event, of the tasks below n from the newest on.
abbrev pub pick_below : CodeTree → Weave → ℕ → Option Event
pick_below code w zero = None
pick_below code w (suc n) = or_else (pick_of code w n) (pick_below code w n)

-- An event that may happen, of the newest task that has one.
abbrev pub pick : CodeTree → Weave → Option Event
pick code w = pick_below code w (length w.tasks)

-- The task of an event that is no steal.
abbrev pub IsOf : ℕ → Event → Type 0
IsOf i (Step j) = j ≡ i
IsOf i (Fork j) = j ≡ i
IsOf i (Steal j) = ⊥
IsOf i (Take j) = j ≡ i
IsOf i (Finish j) = j ≡ i
IsOf i (Join j) = j ≡ i

-- The event is a steal.
abbrev pub IsSteal : Event → Type 0
IsSteal (Step i) = ⊥
IsSteal (Fork i) = ⊥
IsSteal (Steal i) = Unit {0}
IsSteal (Take i) = ⊥
IsSteal (Finish i) = ⊥
IsSteal (Join i) = ⊥

-- A steal of a task with a side that waits: of the first below n, from the newest on.
abbrev pub has_waiting : List Status → Bool
has_waiting [] = false
has_waiting (Waits x ∷ sts) = true
has_waiting (Runs j ∷ sts) = has_waiting sts

-- Whether the task runs.
abbrev pub is_running : Stage → Bool
is_running Running = true
is_running (Finished a) = false
is_running Joined = false

-- Of the tasks below n, from the newest on.
abbrev pub steal_below : Weave → ℕ → Option Event
steal_below w zero = None
steal_below w (suc n) = if is_running (task w.tasks n).stage && has_waiting (task w.tasks n).sides then Some (Steal n) else steal_below w n

-- A steal that may happen, of the newest task that has a side that waits.
abbrev pub pick_steal : Weave → Option Event
pick_steal w = if is_running (task w.tasks 0).stage && nat_lt (length w.tasks) (2 ^ 32) then steal_below w (length w.tasks) else None

-- The event leads on; or it is a step that draws, and all chunks are drawn.
pub data Applies (code : CodeTree) (w : Weave) : Event → Type 0 where
  leads : {e : Event} {w' : Weave} → Next code w e w' → Applies code w e
  full : {i : ℕ} {k : ℕ → State} → IsOn w i → asks code w i ≡ Draw k → w.memory.drawn ≡ w.memory.limit → Applies code w (Step i)

-- What is got stands there, and what is put is put where nothing was put.
abbrev pub IsCareful : Store → Ask → Type 0
IsCareful s (Silent m) = Unit {0}
IsCareful s (Get a n k) = AreKnown s a (suc n)
IsCareful s (Put a b bs m) = Cells s a (length (b ∷ bs))
IsCareful s (Draw k) = Unit {0}
IsCareful s AtFork = Unit {0}
IsCareful s AtJoin = Unit {0}
IsCareful s (Ended a) = Unit {0}
