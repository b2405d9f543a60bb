-- The rule of the forks of one worker: what it pushed and did not pop is what was stolen, and then what the deque holds.
use Rattle.std.specs.Prelude.{◌≡◌, ℕ, true, false, List, [], ◌++◌, map}
use mathlib.Core.Option.{some}
use lib.ListN.{get_elem?}
use Rattle.gib_frame.specs.declared.due.Due.{Due}
use Rattle.gib_frame.specs.TaskParts.{TaskParts}
use Rattle.gib_pool.specs.declared.forks.Stack.{Stack}

-- What the worker itself knows: what it pushed and did not pop.
abbrev pub own : List Due → Stack
own mine = record { owner = true; mine = mine }

-- What another worker knows, who may steal.
abbrev pub guest : Stack
guest = record { owner = false; mine = [] }

-- What a task's frame was made for.
abbrev pub due_of : TaskParts → Due
due_of t = t.due

-- One seat alone is the owner's, and what it knows is right.
abbrev pub Stacked : List TaskParts → List Stack → Type 0
Stacked items views = (port : ℕ) × (gone : List Due) × ((j : ℕ) (v : Stack) → get_elem? views j ≡ some v → v.owner ≡ true → (j ≡ port) × (v.mine ≡ gone ++ map due_of items))

-- The owner pushed these.
abbrev pub Pushed : Stack → List TaskParts → Stack → Type 0
Pushed v xs w = w ≡ own (v.mine ++ map due_of xs)

-- The owner popped these, which it had pushed last.
abbrev pub Popped : Stack → List TaskParts → Stack → Type 0
Popped v xs w = (w.owner ≡ true) × (v.mine ≡ w.mine ++ map due_of xs)

-- Another stole, which tells it nothing.
abbrev pub Stole : Stack → List TaskParts → Stack → Type 0
Stole v xs w = w ≡ v
