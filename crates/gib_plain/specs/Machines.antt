-- The state that a machine is in.
use Rattle.std.specs.Prelude.{ℕ, ◌≤◌, List, [], ◌∷◌, length, map, drop}
use Rattle.std.specs.List.{AllByRecursion}
use Rattle.gib_value.specs.declared.node.Node.{Node}
use Rattle.gib_value.specs.Heap.{value_of, IsWithin}
use Rattle.gib_types.specs.Tree.{Datum}
use Rattle.gib_plain.specs.declared.stack.Binding.{Binding}
use Rattle.gib_plain.specs.declared.machine.Frame.{Frame}
use Rattle.gib_plain.specs.declared.machine.Now.{Now}
use Rattle.gib_plain.specs.declared.machine.Now.TheVariants.{Enter, Leave, Stop}
use Rattle.gib_plain.specs.declared.machine.Machine.TheInside.{Inside}
use Rattle.gib_plain.specs.Stacks.{cut, env_of, IsBound}
use Rattle.gib_plain.specs.Running.{Waiting, Doing, Entering, Leaving, Ended, State}

-- A frame with what it sees of the stacks.
abbrev pub waiting : List Datum → List Binding → List Node → Frame → Waiting
waiting heap vars temps f = record {
  left = f.left;
  env = env_of heap (cut vars f.base f.vars_len);
  finished = map (value_of heap) (cut temps f.start f.temps_len);
  id = f.id.0;
}

-- All frames with what they see.
abbrev pub all_waiting : List Datum → List Binding → List Node → List Frame → List Waiting
all_waiting heap vars temps fs = map (waiting heap vars temps) fs

-- What comes next, with its value.
abbrev pub doing_of : List Datum → Now → Doing
doing_of heap (Enter id) = Entering id.0
doing_of heap (Leave w) = Leaving (value_of heap w)
doing_of heap (Stop why) = Ended why

-- The state of a machine.
abbrev pub state_of : Inside → State
state_of m = record {
  frames = all_waiting m.heap m.vars.items m.temps.items m.frames.items;
  left = m.left;
  env = env_of m.heap (drop m.base m.vars.items);
  doing = doing_of m.heap m.next;
}

-- A value that comes next has its fields before the place.
abbrev pub IsNowWithin : ℕ → Now → Type 0
IsNowWithin n (Enter id) = Unit {0}
IsNowWithin n (Leave w) = IsWithin n w
IsNowWithin n (Stop why) = Unit {0}

-- The parts of the two stacks that the frames see lie one after another, between these ends.
abbrev pub Nest : ℕ → ℕ → List Frame → ℕ → ℕ → Type 0
Nest v t [] vars temps = (v ≤ vars) × (t ≤ temps)
Nest v t (f ∷ fs) vars temps =
    (v ≤ f.vars_len) × (f.base ≤ f.vars_len) × (t ≤ f.start) × (f.start ≤ f.temps_len) × Nest f.vars_len f.temps_len fs vars temps

-- The stacks and the frames fit together.
pub record Held (heap : List Datum) (vars : List Binding) (temps : List Node) (frames : List Frame) (base : ℕ) : Type 0 where
  pub vars_within : AllByRecursion (IsBound (length heap)) vars
  pub temps_within : AllByRecursion (IsWithin (length heap)) temps
  pub base_in : base ≤ length vars
  pub nest : Nest 0 0 frames (length vars) (length temps)

-- What every machine keeps.
pub record IsSound (m : Inside) : Type 0 where
  pub held : Held m.heap m.vars.items m.temps.items m.frames.items m.base
  pub next : IsNowWithin (length m.heap) m.next
