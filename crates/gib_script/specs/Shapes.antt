-- What a script does by its shape, and what that leaves.
use Rattle.std.specs.Prelude.{◌≡◌, ⊤, ℕ, ◌≤◌, List, ◌∷◌, Result, Err}
use Rattle.gib_edge.specs.Views.{Call, ReadOf, WriteOf}
use Rattle.gib_script.specs.Script.{Script, Return, Fail, Choose, Read, Write, Put, Halt, NoRead, NoWrite, NoPut, World}

-- Its calls of the shelf, whatever the answers, are a front of these.
abbrev pub Calls : {E X : Type 0} → Script E X → List Call → Type 0
Calls (Return x) calls = ⊤
Calls (Fail e) calls = ⊤
Calls (Choose A P k) calls = (a : A) → P a → Calls (k a) calls
Calls (Read name most k) calls = (rest : List Call) × (calls ≡ ReadOf name most ∷ rest) × ((bytes : List ℕ) → Calls (k bytes) rest)
Calls (Write name bytes k) calls = (rest : List Call) × (calls ≡ WriteOf name ∷ rest) × Calls k rest
Calls (Put bytes k) calls = Calls k calls

-- It writes no file.
abbrev pub OnlyReads : {E X : Type 0} → Script E X → Type 0
OnlyReads (Return x) = ⊤
OnlyReads (Fail e) = ⊤
OnlyReads (Choose A P k) = (a : A) → P a → OnlyReads (k a)
OnlyReads (Read name most k) = (bytes : List ℕ) → OnlyReads (k bytes)
OnlyReads (Write name bytes k) = ⊥
OnlyReads (Put bytes k) = OnlyReads k

-- Nothing is left to do.
abbrev pub IsOver : {E X : Type 0} → Script E X → Type 0
IsOver (Return x) = ⊤
IsOver (Fail e) = ⊥
IsOver (Choose A P k) = ⊥
IsOver (Read name most k) = ⊥
IsOver (Write name bytes k) = ⊥
IsOver (Put bytes k) = ⊥

-- It puts once at most, and then nothing is left to do.
abbrev pub PutsLast : {E X : Type 0} → Script E X → Type 0
PutsLast (Return x) = ⊤
PutsLast (Fail e) = ⊤
PutsLast (Choose A P k) = (a : A) → P a → PutsLast (k a)
PutsLast (Read name most k) = (bytes : List ℕ) → PutsLast (k bytes)
PutsLast (Write name bytes k) = PutsLast k
PutsLast (Put bytes k) = IsOver k

-- No file was written.
pub record KeepsFiles (w v : World) : Type 0 where
  pub same : (name : List ℕ) → v.shelf.kept name ≡ w.shelf.kept name
  pub writes : (name : List ℕ) → v.shelf.writes name ≡ w.shelf.writes name

-- No count of faults falls, and each rises only where the end tells of it.
pub record IsCounted {E X : Type 0} (w v : World) (r : Result X (Halt E)) : Type 0 where
  pub reads_later : (name : List ℕ) → w.shelf.reads name ≤ v.shelf.reads name
  pub writes_later : (name : List ℕ) → w.shelf.writes name ≤ v.shelf.writes name
  pub out_later : w.out.faults ≤ v.out.faults
  pub reads : ((name : List ℕ) → r ≡ Err (NoRead name) → ⊥) → (name : List ℕ) → v.shelf.reads name ≡ w.shelf.reads name
  pub writes : ((name : List ℕ) → r ≡ Err (NoWrite name) → ⊥) → (name : List ℕ) → v.shelf.writes name ≡ w.shelf.writes name
  pub faults : (r ≡ Err NoPut → ⊥) → v.out.faults ≡ w.out.faults
