-- What a worker knows of its forks.
use Rattle.std.specs.Prelude.{◌≡◌, true}
use Rattle.crossbeam_deque.specs.Handles.{worker_flavor, worker_view}
use Rattle.crossbeam_deque.specs.declared.handles.Worker.{Worker}
use Rattle.gib_frame.specs.TaskParts.{TaskParts}
use Rattle.gib_pool.specs.declared.forks.Stack.{Stack}

-- It pops the latest fork, and is the one that pushes.
abbrev pub IsMine : {A P : Type 0} → Worker TaskParts A Stack P → Type 0
IsMine w = (worker_flavor w ≡ 1) × ((worker_view w).owner ≡ true)
