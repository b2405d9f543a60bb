-- How a worker chooses its next event.
use Rattle.std.specs.Prelude.{◌≡◌, ◌⊎◌, ◌-◌, ℕ, List, length, slice_get, Some}
use Rattle.gib_code.specs.Program.{CodeTree}
use Rattle.gib_weave.specs.Weave.{Weave, Event, Steal, Enabled, IsOf, IsSteal}

-- The task was begun last of these.
abbrev pub IsLatest : List ℕ → ℕ → Type 0
IsLatest mine task = slice_get mine (length mine - 1) ≡ Some task

-- The event is one of the worker's own: of the task that it began last.
abbrev pub IsOwn : List ℕ → Event → Type 0
IsOwn mine e = (task : ℕ) × IsLatest mine task × IsOf task e

-- No event of its own is enabled.
abbrev pub HasNoOwn : CodeTree → Weave → List ℕ → Type 0
HasNoOwn code w mine = (task : ℕ) (e : Event) → IsLatest mine task → Enabled code w e → IsOf task e → ⊥

-- Own tasks first: the event is enabled, and it is one of its own; or a steal, where it has none of its own.
abbrev pub IsChosen : CodeTree → Weave → List ℕ → Event → Type 0
IsChosen code w mine e = Enabled code w e × (IsOwn mine e ⊎ (IsSteal e × HasNoOwn code w mine))

-- It has no event of its own, and there is nothing to steal.
abbrev pub HasNothing : CodeTree → Weave → List ℕ → Type 0
HasNothing code w mine = HasNoOwn code w mine × ((i : ℕ) → Enabled code w (Steal i) → ⊥)
