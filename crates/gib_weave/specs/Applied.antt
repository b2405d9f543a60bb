-- What a call of a weave leaves, by its answer.
use Rattle.std.specs.Prelude.{◌≡◌, ℕ, zero, suc, List, [], ◌∷◌, ◌++◌, Bool, ◌&&◌, true, false, nat_eq, Option, Some, None, Result, Ok, Err}
use Rattle.std.specs.Ordering.{nat_cmp}
use Rattle.std.specs.BTreeSet.{BTreeSet, contains}
use Rattle.gib_mem.specs.Memory.{Memory}
use Rattle.gib_code.specs.Instruction.{Instruction}
use Rattle.gib_code.specs.Program.{CodeTree, Runs}
use Rattle.gib_machine.specs.State.{Ask, Silent, Get, Put, Draw, AtFork, AtJoin, Ended, widest}
use Rattle.gib_machine.specs.Sides.{Waiting, left_starts, right_of, side_start}
use Rattle.gib_machine.specs.Starting.{waiting_of}
use Rattle.gib_machine.specs.Stepping.{Can}
use Rattle.gib_machine.specs.Frames.{FitsFrame}
use Rattle.gib_weave.specs.declared.sides.RightSide.{RightSide}
use Rattle.gib_weave.specs.declared.sides.RightSide.TheVariants as side
use Rattle.gib_weave.specs.declared.sides.Newest.{Newest}
use Rattle.gib_weave.specs.declared.sides.Newest.TheVariants as newest
use Rattle.gib_weave.specs.declared.event.Event.{Event as TaskEvent}
use Rattle.gib_weave.specs.declared.event.Event.TheVariants as event
use Rattle.gib_weave.specs.declared.task.Stage.{Stage as TaskStage}
use Rattle.gib_weave.specs.declared.task.Stage.TheVariants as stage
use Rattle.gib_weave.specs.declared.task.WeaveFault.{WeaveFault}
use Rattle.gib_weave.specs.declared.task.WeaveFault.TheVariants as fault
use Rattle.gib_machine.specs.declared.turn.Turn.{Turn}
use Rattle.gib_machine.specs.declared.turn.Turn.TheVariants as turn
use Rattle.gib_weave.specs.Weave.{Weave, Task, Event, Step, Fork, Steal, Take, Finish, Join, Next, Enabled, Status, Stolen, StepsBy, Waits, Stage, asks, has_waiting, is_running, task}
use Rattle.gib_weave.specs.Weave as w

-- A right side as the code keeps it.
abbrev pub status_of : RightSide → Status
status_of (side.Waiting s) = Waits (waiting_of s)
status_of (side.Begun n) = w.Runs n

-- Right sides that stand with the oldest first.
abbrev pub newest_first : List RightSide → List Status
newest_first [] = []
newest_first (x ∷ xs) = newest_first xs ++ status_of x ∷ []

-- The oldest so many are begun, and the others wait.
abbrev pub AreBegunFirst : ℕ → List RightSide → Type 0
AreBegunFirst zero [] = Unit {0}
AreBegunFirst zero (side.Waiting s ∷ xs) = AreBegunFirst zero xs
AreBegunFirst zero (side.Begun n ∷ xs) = ⊥
AreBegunFirst (suc k) [] = ⊥
AreBegunFirst (suc k) (side.Waiting s ∷ xs) = ⊥
AreBegunFirst (suc k) (side.Begun n ∷ xs) = AreBegunFirst k xs

-- The oldest side that waits.
abbrev pub IsOldest : List Status → Waiting → Type 0
IsOldest sts x = (sts' : List Status) × Stolen 0 sts x sts'

-- Each side that waits fits a frame of this width.
abbrev pub AreNarrow : ℕ → List Status → Type 0
AreNarrow width [] = Unit {0}
AreNarrow width (Waits x ∷ sts) = FitsFrame width x.words × AreNarrow width sts
AreNarrow width (w.Runs n ∷ sts) = AreNarrow width sts

-- How far a right side is.
abbrev pub newest_of : Status → Newest
newest_of (Waits x) = newest.Waiting
newest_of (w.Runs n) = newest.Begun n

-- The newest side is a task.
abbrev pub IsBegun : List Status → Type 0
IsBegun [] = ⊥
IsBegun (Waits x ∷ sts) = ⊥
IsBegun (w.Runs n ∷ sts) = Unit {0}

-- A stage as the code keeps it.
abbrev pub stage_of : TaskStage → Stage
stage_of stage.Running = w.Running
stage_of (stage.Finished a) = w.Finished a
stage_of stage.Joined = w.Joined

-- The left side of the task's fork starts, and its right side waits.
abbrev pub forked : Task → Option Instruction → Task
forked t i = record { state = left_starts t.state i; sides = Waits (right_of t.state i) ∷ t.sides; stage = t.stage }

-- A right side as a task of its own.
abbrev pub side_task : CodeTree → Waiting → Task
side_task code x = record { state = side_start code x; sides = []; stage = w.Running }

-- A fork of a task leaves this, by its answer.
abbrev pub IsForked : Task → Option Instruction → Task → Result (Unit {0}) WeaveFault → Type 0
IsForked t i t' (Ok u) = t' ≡ forked t i
IsForked t i t' (Err fault.Memory) = t' ≡ t
IsForked t i t' (Err fault.NotNow) = ⊥
IsForked t i t' (Err fault.Full) = ⊥

-- Tasks over a memory.
abbrev pub over : Memory → List Task → Weave
over m ts = record { memory = m; tasks = ts }

-- An event as the code keeps it.
abbrev pub event_of : TaskEvent → Event
event_of (event.Step i) = Step i
event_of (event.Fork i) = Fork i
event_of (event.Steal i) = Steal i
event_of (event.Take i) = Take i
event_of (event.Finish i) = Finish i
event_of (event.Join i) = Join i

-- An event that is picked, or none.
abbrev pub picked_of : Option TaskEvent → Option Event
picked_of None = None
picked_of (Some e) = Some (event_of e)

-- Whether a task is open: it runs, and has a side that waits.
abbrev pub can_steal_from : Task → Bool
can_steal_from t = is_running t.stage && has_waiting t.sides

-- The task to which an event happens.
abbrev pub number_of : Event → ℕ
number_of (Step i) = i
number_of (Fork i) = i
number_of (Steal i) = i
number_of (Take i) = i
number_of (Finish i) = i
number_of (Join i) = i

-- Whether the event may leave task j open that was not: with its left side a fork starts a side that waits.
abbrev pub opens : Event → (j : ℕ) → Bool
opens (Step i) j = false
opens (Fork i) j = nat_eq i j
opens (Steal i) j = false
opens (Take i) j = false
opens (Finish i) j = false
opens (Join i) j = false

-- The numbers are those of the tasks that are open.
abbrev pub AreOpen : BTreeSet ℕ → List Task → Type 0
AreOpen numbers ts = (i : ℕ) → contains nat_cmp numbers i ≡ can_steal_from (task ts i)

-- A turn as the answer of a step: a machine that stands cannot make one.
abbrev pub stepped : Turn → Result (Unit {0}) WeaveFault
stepped turn.Went = Ok tt
stepped turn.Full = Err fault.Full
stepped turn.AtFork = Err fault.NotNow
stepped turn.AtJoin = Err fault.NotNow
stepped turn.Ended = Err fault.NotNow

-- The event is a step that draws.
abbrev pub IsDraw : Ask → Type 0
IsDraw (Silent s) = ⊥
IsDraw (Get a more k) = ⊥
IsDraw (Put a b bs s) = ⊥
IsDraw (Draw k) = Unit {0}
IsDraw AtFork = ⊥
IsDraw AtJoin = ⊥
IsDraw (Ended a) = ⊥

-- Of an event.
abbrev pub DrawsNow : CodeTree → Weave → Event → Type 0
DrawsNow code v e = StepsBy IsDraw code v e

-- The event may take memory: at a fork a right side is kept, and by a steal a machine is made.
abbrev pub TakesMemory : Event → Type 0
TakesMemory (Step i) = ⊥
TakesMemory (Fork i) = Unit {0}
TakesMemory (Steal i) = Unit {0}
TakesMemory (Take i) = ⊥
TakesMemory (Finish i) = ⊥
TakesMemory (Join i) = ⊥

-- An event that is accepted leads on; a refusal leaves the weave as it was: the event is not enabled; or it is enabled and draws, and
-- all chunks are drawn; or memory was wanted, which only a fork and a steal take.
abbrev pub Applied : CodeTree → Weave → Event → Weave → Result (Unit {0}) WeaveFault → Type 0
Applied code v e v' (Ok u) = Next code v e v'
Applied code v e v' (Err fault.NotNow) = (v' ≡ v) × (Enabled code v e → ⊥)
Applied code v e v' (Err fault.Full) = (v' ≡ v) × Enabled code v e × DrawsNow code v e × (v.memory.drawn ≡ v.memory.limit)
Applied code v e v' (Err fault.Memory) = (v' ≡ v) × TakesMemory e

-- The frames of each task that runs have the width of this code.
abbrev pub HaveWidth : CodeTree → List Task → Type 0
HaveWidth code ts = (i : ℕ) → (task ts i).stage ≡ w.Running → (task ts i).state.width ≡ widest code.functions

-- The tasks run this code, and each that runs asks the memory for nothing that it cannot answer; nobody else draws.
pub record CanGo (code : CodeTree) (v : Weave) : Type 0 where
  pub runs : Runs code
  pub alone : v.memory.alone ≡ true
  pub widths : HaveWidth code v.tasks
  pub can : (i : ℕ) → (task v.tasks i).stage ≡ w.Running → Can (asks code v i) v.memory
