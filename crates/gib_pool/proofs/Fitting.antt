-- There is room for a frame for each fork.
use Rattle.std.proofs.Common.{◌≡◌, ℕ, ◌<◌, ◌≤◌, List, [], length, sym, ap, subst, arith}
use Rattle.std.specs.Prelude.{Option}
use Rattle.std.specs.Box.{with_value}
use Rattle.std.specs.Vec.{vec_capacity}
use Rattle.gib_mem.specs.Memory.{Store}
use Rattle.gib_core.specs.LoweredParts.{LoweredParts}
use Rattle.gib_machine.specs.Levels.{lefts, AreWithin, IsWithin}
use Rattle.gib_machine.specs.State.{State}
use Rattle.gib_machine.specs.Sides.{Waiting}
use Rattle.gib_machine.proofs.Levels.{fork_is_within}
use Rattle.gib_weave.specs.Owing.{Debt}
use Rattle.gib_arena.specs.declared.memory.Arena.{Arena}
use Rattle.gib_frame.specs.declared.due.Due.{Due}
use Rattle.gib_pool.specs.declared.active.ActiveTask.{ActiveTask}
use Rattle.gib_pool.specs.declared.workspace.Workspace.{Workspace}
use Rattle.gib_pool.specs.Active.{Holds, active_state}
use Rattle.gib_pool.specs.Turn.{WorksOn}

pub frames_fit : (l : LoweredParts) (d : Debt) (s : Store) (n : ℕ) (lent : List (Option Due)) (m left : State) (right : Waiting) (top : ℕ) → WorksOn l d s n lent m left right → 0 < m.level → IsWithin top m → length lent < top
frames_fit l d s n lent m left right top w h i = let c = w.count in let f = fork_is_within top m h i in omega (arith, c, f)

-- A task that begins has no fork open.
pub starts_within : (n : ℕ) (s : State) → s.pars ≡ [] → s.level ≤ n → IsWithin n s
starts_within n s none h = record { level = (let z : lefts s.pars ≡ 0 = ap lefts none in omega (arith, z, h)); pars = subst (AreWithin n) (sym none) tt }

-- The room for frames is as it was, and the machine is in another state.
pub within_then : (old new : ActiveTask) (s : State) → vec_capacity new.workspace.value.frames ≡ vec_capacity old.workspace.value.frames → active_state new ≡ s → IsWithin (vec_capacity old.workspace.value.frames) s → IsWithin (vec_capacity new.workspace.value.frames) (active_state new)
within_then old new s room is h = subst (λ (n : ℕ). IsWithin n (active_state new)) (sym room) (subst (IsWithin (vec_capacity old.workspace.value.frames)) (sym is) h)

-- A task with this in its workspace.
abbrev pub placed : ActiveTask → Workspace → ActiveTask
placed j w = record { workspace = with_value j.workspace w; pass = j.pass; here = j.here }

-- What a borrow of its workspace shows is the task.
pub is_placed : (j : ActiveTask) (w : Workspace) → w ≡ j.workspace.value → placed j w ≡ j
is_placed j w e = ap (placed j) e

pub placed_holds : (a : Arena) (l : LoweredParts) (j : ActiveTask) (w : Workspace) → w ≡ j.workspace.value → Holds a l j → Holds a l (placed j w)
placed_holds a l j w e h = subst (Holds a l) (sym (is_placed j w e)) h
