-- What a worker holds and owes at a task.
use Rattle.std.specs.Prelude.{◌≡◌, [], List, Option, Result, Ok, Err}
use Rattle.std.specs.Vec.{vec_capacity}
use Rattle.gib_mem.specs.Memory.{Memory, Grows}
use Rattle.gib_core.specs.LoweredParts.{LoweredParts}
use Rattle.gib_machine.specs.Levels.{IsWithin}
use Rattle.gib_machine.specs.State.{State, widest}
use Rattle.gib_machine.specs.Stepping.{with_tails}
use Rattle.gib_machine.specs.declared.turn.Turn.{Turn}
use Rattle.gib_weave.specs.Owing.{Debt}
use Rattle.gib_weave.specs.Sound.{IsAnswer}
use Rattle.gib_arena.specs.declared.memory.Arena.{Arena}
use Rattle.gib_arena.specs.declared.memory.Pass.{Pass}
use Rattle.gib_arena.specs.Passes.{view, cells, IsOf}
use Rattle.gib_arena.specs.Shown.{shown}
use Rattle.gib_frame.specs.declared.due.Due.{Due}
use Rattle.gib_frame.specs.declared.due.Ending.{Ending}
use Rattle.gib_frame.specs.declared.due.Ending.TheVariants as ending
use Rattle.gib_frame.specs.Answers.{IsPaid, drawn_by}
use Rattle.gib_pool.specs.declared.active.ActiveTask.{ActiveTask}
use Rattle.gib_pool.specs.Turn.{Pays, Works}
use Rattle.gib_pool.specs.Going.{Comes}
use Rattle.gib_pool.specs.Lent.{Lends}
use Rattle.gib_pool.specs.Frames.{lent_of, AreHere}

-- The state of its machine, with the tails of its task.
abbrev pub active_state : ActiveTask → State
active_state j = with_tails j.workspace.value.machine j.workspace.value.tails

-- What its frames were made for, the newest first.
abbrev pub active_lent : ActiveTask → List (Option Due)
active_lent j = lent_of j.workspace.value.frames.items

-- Its pass as a memory.
abbrev pub active_memory : ActiveTask → Memory
active_memory j = shown j.pass.seat.table_id (view j.pass)

-- It owes this, in what its pass knows.
abbrev pub OwesStill : LoweredParts → Debt → ActiveTask → Type 0
OwesStill l d j = Works l d (cells j.pass) (drawn_by j.pass) (active_state j) (active_lent j)

-- It owes this, and its machine stands.
abbrev pub StandsAt : LoweredParts → Debt → ActiveTask → Turn → Type 0
StandsAt l d j turn = Comes l d (active_lent j) (active_memory j) (active_state j) turn

-- Its pass is of the arena, and no pass is split off it but those of its frames; its machine was made for the code; and there is room for a
-- frame for each fork that is open or may nest yet.
pub record Holds (a : Arena) (l : LoweredParts) (j : ActiveTask) : Type 0 where
  pub own : IsOf a j.pass
  pub lends : Lends j.pass (active_lent j)
  pub made : j.workspace.value.machine.width ≡ widest l.code.functions
  pub within : IsWithin (vec_capacity j.workspace.value.frames) (active_state j)

-- So many of its newest forks may still be among those of its worker.
abbrev pub IsHere : ActiveTask → List Due → Type 0
IsHere j mine = AreHere (active_lent j) j.here mine

-- The pass is the same one of an arena with as many chunks, and knows what it knew.
pub record IsSamePass (old new : Pass) : Type 0 where
  pub path : (view new).branch.path ≡ (view old).branch.path
  pub limit : (view new).branch.limit ≡ (view old).branch.limit
  pub known : Grows (cells old) (cells new)

-- The pass comes back: the same one, with all that was split off it back.
pub record IsBackWhole (a : Arena) (old new : Pass) : Type 0 where
  pub own : IsOf a new
  pub same : IsSamePass old new
  pub none_out : (view new).branch.out ≡ []

-- What a pass drew and the right sides of a task are paid for by what this debt may cost.
abbrev pub PaysStill : LoweredParts → Debt → ActiveTask → Type 0
PaysStill l d j = Pays l d.most (drawn_by j.pass) (active_lent j)

-- How a task ends, whichever debt of these it has: its answer is what was owed, or its pass saw that all chunks are drawn, and what was
-- drawn is paid for.
abbrev pub Settles : LoweredParts → (Debt → Type 0) → Ending → Pass → Type 0
Settles l Has (ending.Answer a) p = (d : Debt) → Has d → IsAnswer l.code.laid (cells p) d.ty d.owed a × IsPaid d.most (drawn_by p)
Settles l Has ending.Full p = ((view p).holding.seen ≡ (view p).branch.limit) × ((d : Debt) → Has d → IsPaid d.most (drawn_by p))
Settles l Has ending.NotRun p = ⊥

-- A task that stood goes on: the worker holds and owes what it should, its forks are these, and the pass is the same one.
pub record IsOn (a : Arena) (l : LoweredParts) (Has : Debt → Type 0) (old : ActiveTask) (mine : List Due) (new : ActiveTask) : Type 0 where
  pub holds : Holds a l new
  pub owes : (d : Debt) → Has d → OwesStill l d new
  pub here : IsHere new mine
  pub same : IsSamePass old.pass new.pass

-- A task has come to its end: its pass is back, and how it ended is settled.
pub record IsOver (a : Arena) (l : LoweredParts) (Has : Debt → Type 0) (old : ActiveTask) (e : Ending) (p : Pass) : Type 0 where
  pub back : IsBackWhole a old.pass p
  pub settles : Settles l Has e p

-- A task that stood goes on, or has come to its end.
abbrev pub Goes : {Kept : Type 0} → Arena → LoweredParts → (Debt → Type 0) → ActiveTask → List Due → Result ActiveTask (Ending × Pass × Kept) → Type 0
Goes a l Has old mine (Ok j) = IsOn a l Has old mine j
Goes a l Has old mine (Err r) = IsOver a l Has old r.0 r.1
