-- The stacks of the machine.
use Rattle.std.specs.Prelude.{◌≡◌, ℕ, List, [], ◌∷◌, ◌++◌, length, take, drop, Result, OnOk, OnErr}
use Rattle.std.specs.List.{AllByRecursion}
use Rattle.gib_value.specs.declared.node.Node.{Node}
use Rattle.gib_value.specs.Heap.{value_of, IsWithin}
use Rattle.gib_types.specs.Tree.{Datum}
use Rattle.gib_syntax.specs.declared.tree.Ident.{Ident}
use Rattle.gib_syntax.specs.Meaning.{Environment}
use Rattle.gib_plain.specs.declared.stack.Binding.{Binding}

-- A part of a stack, from its start and its end.
abbrev pub cut : {X : Type 0} → List X → ℕ → ℕ → List X
cut xs from to = drop from (take to xs)

-- The variables of these bindings, the oldest of which stands first, over others.
abbrev pub env_over : List Datum → List Binding → Environment → Environment
env_over heap [] env = env
env_over heap (b ∷ bs) env = env_over heap bs ((b.name.0, value_of heap b.value) ∷ env)

-- The variables of these bindings.
abbrev pub env_of : List Datum → List Binding → Environment
env_of heap bs = env_over heap bs []

-- A variable for each name that has a value.
abbrev pub bindings_of : List Ident → List Node → List Binding
bindings_of [] ws = []
bindings_of (x ∷ xs) [] = []
bindings_of (x ∷ xs) (w ∷ ws) = record { name = x.name; value = w } ∷ bindings_of xs ws

-- The variable's value has its fields before the place.
abbrev pub IsBound : ℕ → Binding → Type 0
IsBound n b = IsWithin n b.value

-- Where there was memory the new bindings add to the variables what is said; else there are no new ones.
abbrev pub Adds : {T E : Type 0} → Result T E → List Datum → List Binding → List Binding → (Environment → Environment) → Type 0
Adds result heap old new change =
    (added : List Binding) × (new ≡ old ++ added) × AllByRecursion (IsBound (length heap)) added
    × OnOk result ((env : Environment) → env_over heap added env ≡ change env) × OnErr result (added ≡ [])
