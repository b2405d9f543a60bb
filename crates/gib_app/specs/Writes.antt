-- What names hold after files were written, and where one of them could not be.
use Rattle.std.specs.Prelude.{◌≡◌, ◌⊎◌, ℕ, List, [], ◌∷◌, ◌++◌, Option, Some, None, Bool, if◌then◌else◌, bytes_eq}
use Rattle.gib_edge.specs.Causes.{Rose, IsUntold, told}
use Rattle.gib_edge.specs.Views.{ShelfView}
use Rattle.gib_words.specs.Plan.{Write, Plan, Files}

-- What names hold after a write.
abbrev pub with_write : Bool → Files → Write → Files
with_write tells kept write = λ name. if bytes_eq write.name name then told tells write.bytes else kept name

-- What they hold after writes, one after another: of one name, the later write stands.
abbrev pub after : Bool → Files → List Write → Files
after tells kept [] = kept
after tells kept (write ∷ rest) = after tells (with_write tells kept write) rest

-- These writes were made, all of them and nothing else.
abbrev pub AreMade : Bool → (before now : Files) → List Write → Type 0
AreMade tells before now writes = (name : List ℕ) → now name ≡ after tells before writes name

-- The write of the file that a job made, if any, under the target's name, if there is one.
abbrev pub writes_of : (file target : Option (List ℕ)) → List Write
writes_of None target = []
writes_of (Some bytes) None = []
writes_of (Some bytes) (Some name) = record { name = name; bytes = bytes } ∷ []

-- The write under this name failed, and nothing else changed: its count rose, and it is not told what it holds now.
pub record IsStuck (kept : Files) (before now : ShelfView) (name : List ℕ) : Type 0 where
  pub others : (other : List ℕ) → (other ≡ name → ⊥) → now.kept other ≡ kept other
  pub untold : IsUntold (now.kept name)
  pub rose : Rose (before.writes name) (now.writes name)

-- One of the writes failed, under this name; those before it were made, and no later one.
abbrev pub IsStuckIn : Bool → Files → List Write → (before now : ShelfView) → (name : List ℕ) → Type 0
IsStuckIn tells kept [] before now name = ⊥
IsStuckIn tells kept (write ∷ rest) before now name =
    ((write.name ≡ name) × IsStuck kept before now name) ⊎ IsStuckIn tells (with_write tells kept write) rest before now name

-- One of the writes is under this name.
abbrev pub IsNamedIn : List Write → List ℕ → Type 0
IsNamedIn [] name = ⊥
IsNamedIn (write ∷ rest) name = (write.name ≡ name) ⊎ IsNamedIn rest name

-- A plan writes under this name: before it reads, or what its job makes.
abbrev pub IsTarget : Plan → List ℕ → Type 0
IsTarget plan name = IsNamedIn plan.first name ⊎ (plan.target ≡ Some name) ⊎ (plan.pack ≡ Some name)

-- What names hold when a plan's source and inputs are read.
abbrev pub at_reading : Bool → Files → Plan → Files
at_reading tells kept plan = after tells kept plan.first

-- The writes of what a plan's job made: its file, if it has one, and then the packed file of its result, if it has one.
abbrev pub job_writes : Plan → (file packed : Option (List ℕ)) → List Write
job_writes plan file packed = writes_of file plan.target ++ writes_of packed plan.pack

-- A plan's first writes were made, and then those of its job.
abbrev pub AreWritten : Bool → (before now : Files) → Plan → (file packed : Option (List ℕ)) → Type 0
AreWritten tells before now plan file packed = AreMade tells (at_reading tells before plan) now (job_writes plan file packed)
