-- What events get and put, byte by byte.
use Rattle.std.specs.Prelude.{◌≡◌, ◌≤◌, ◌<◌, ◌+◌, ℕ, suc, List, ◌∷◌, length}
use Rattle.gib_mem.specs.Memory.{Store, byte}
use Rattle.gib_code.specs.Program.{CodeTree}
use Rattle.gib_machine.specs.State.{Ask, Silent, Get, Put, Draw, AtFork, AtJoin, Ended}
use Rattle.gib_weave.specs.Weave.{Weave, Event, Next, StepsBy}

-- A byte stands at the address.
abbrev pub HasByte : Store → ℕ → Type 0
HasByte s q = (b : ℕ) × (s q ≡ byte b)

-- The action gets the byte at the address.
abbrev pub GetsAt : Ask → ℕ → Type 0
GetsAt (Silent m) q = ⊥
GetsAt (Get a n k) q = (a ≤ q) × (q < a + suc n)
GetsAt (Put a b bs m) q = ⊥
GetsAt (Draw k) q = ⊥
GetsAt AtFork q = ⊥
GetsAt AtJoin q = ⊥
GetsAt (Ended a) q = ⊥

-- The action puts a byte at the address.
abbrev pub PutsAt : Ask → ℕ → Type 0
PutsAt (Silent m) q = ⊥
PutsAt (Get a n k) q = ⊥
PutsAt (Put a b bs m) q = (a ≤ q) × (q < a + length (b ∷ bs))
PutsAt (Draw k) q = ⊥
PutsAt AtFork q = ⊥
PutsAt AtJoin q = ⊥
PutsAt (Ended a) q = ⊥

-- The event gets the byte at the address.
abbrev pub Gets : CodeTree → Weave → Event → ℕ → Type 0
Gets code w e q = StepsBy (λ (a : Ask). GetsAt a q) code w e

-- The event puts a byte at the address.
abbrev pub Puts : CodeTree → Weave → Event → ℕ → Type 0
Puts code w e q = StepsBy (λ (a : Ask). PutsAt a q) code w e

-- An event of the list puts a byte at the address.
pub data ArePut (code : CodeTree) (q : ℕ) : Weave → List Event → Type 0 where
  first : {w v : Weave} {e : Event} {es : List Event} → Next code w e v → Puts code w e q → ArePut code q w (e ∷ es)
  later : {w v : Weave} {e : Event} {es : List Event} → Next code w e v → ArePut code q v es → ArePut code q w (e ∷ es)
