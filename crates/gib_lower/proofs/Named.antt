-- The numbers of functions in a core, and in what the code keeps of it.
use Rattle.std.proofs.Common.{◌≡◌, ℕ, suc, Bool, true, false, List, [], ◌∷◌, map, Option, Some, refl, ap, ◌∙◌, ◌==◌, if◌then◌else◌, unwrap_or}
use Rattle.gib_base.specs.Entries.{entry_at}
use Rattle.gib_core.specs.declared.program.CoreFunction.{CoreFunction}
use Rattle.gib_core.specs.Tree.{Term}
use Rattle.gib_core.specs.Parts.{function_term}
use Rattle.gib_core.specs.Low.{function_number}
use Rattle.gib_lower.specs.Numbers.{number_at, first_number}

pub numbers_same : (f : ℕ → Term) (ds : List CoreFunction) (name : ℕ) → first_number ds name ≡ function_number (map (function_term f) ds) name
numbers_same f [] name = refl
numbers_same f (d ∷ ds) name = ap (λ n. if d.name.0 == name then 0 else suc n) (numbers_same f ds name)

or_main : (b : Bool) (o : Option ℕ) (n main : ℕ) → unwrap_or (if b then Some n else o) main ≡ (if b then n else unwrap_or o main)
or_main true o n main = refl
or_main false o n main = refl

-- A number that is put at a name stands there, and elsewhere what stood there stays.
pub number_put : (old new : List (Option ℕ)) (name n : ℕ) → ((other : ℕ) → entry_at new other ≡ (if name == other then Some n else entry_at old other))
    → (main other : ℕ) → number_at new main other ≡ (if name == other then n else number_at old main other)
number_put old new name n are main other = ap (λ (o : Option ℕ). unwrap_or o main) (are other) ∙ or_main (name == other) (entry_at old other) n main
