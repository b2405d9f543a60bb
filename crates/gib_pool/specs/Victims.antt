-- Whose forks the workers of a run steal.
use Rattle.std.specs.Prelude.{ℕ, zero, suc, ◌+◌, ◌%◌, List, [], ◌∷◌, ◌++◌, map, length, Option, None, Some, slice_get}
use Rattle.std.specs.declared.alloc.Global.{Global}
use Rattle.atomic_blocks.specs.Lent.{RowsId}
use Rattle.crossbeam_deque.specs.Handles.{worker_deque, stealer_deque}
use Rattle.gib_pool.specs.declared.stealer.Stealer.{Stealer}
use Rattle.gib_pool.specs.declared.worker.Worker.{Worker}

-- Which deque it is.
abbrev pub Deque : Type 0
Deque = RowsId × Global

-- The deques of the workers' own forks.
abbrev pub deques : List Worker → List Deque
deques ws = map (λ (w : Worker). worker_deque w.forks) ws

-- The deques from which a worker may steal, in its order.
abbrev pub steals_from : Option Worker → List Deque
steals_from None = []
steals_from (Some w) = map (λ (s : Stealer). stealer_deque s.forks) w.stealers.items

-- Those from which the worker at a place may steal.
abbrev pub victims : List Worker → ℕ → List Deque
victims ws p = steals_from (slice_get ws p)

-- What stands there, if anything.
abbrev pub listed : Option Deque → List Deque
listed None = []
listed (Some d) = d ∷ []

-- The n deques behind a place, and behind the last one those from the first on.
abbrev pub in_turn : List Deque → (p n : ℕ) → List Deque
in_turn ds p zero = []
in_turn ds p (suc n) = in_turn ds p n ++ listed (slice_get ds ((p + 1 + n) % length ds))
