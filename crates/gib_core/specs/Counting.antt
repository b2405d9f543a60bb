-- How often terms use variables.
use Rattle.std.specs.Prelude.{◌≡◌, ℕ, ◌+◌, ◌==◌, Bool, if◌then◌else◌, List, [], ◌∷◌, Option}
use Rattle.gib_core.specs.declared.atom.Variable.{Variable}
use Rattle.gib_core.specs.declared.atom.Atom.{Atom}
use Rattle.gib_core.specs.Tree.{Term, Bind, Side, PartTerms, Branches}
use Rattle.gib_core.specs.Met.{PrimLine, WriteLine, PointLine, CallLine, GiveLine, CaseLine, IfLine, TupleLine}
use Rattle.gib_core.specs.Walk.{Entry, AtLine, walk, walk_bind, walk_side, walk_parts, walk_branches}
use Rattle.gib_core.specs.Reaching.{is_variable}
use Rattle.gib_core.specs.ByVariable.{number_at}

-- How often an atom is the variable.
abbrev pub count_atom : Variable → Atom → ℕ
count_atom x y = if is_variable x y then 1 else 0

-- How often atoms are the variable.
abbrev pub count_in : Variable → List Atom → ℕ
count_in x [] = 0
count_in x (y ∷ ys) = count_atom x y + count_in x ys

-- How often the atoms of an entry are the variable.
abbrev pub entry_counts : Variable → Entry → ℕ
entry_counts x (AtLine (PrimLine y f v w)) = count_atom x v + count_atom x w
entry_counts x (AtLine (WriteLine h k ss ps)) = count_in x ss + count_in x ps
entry_counts x (AtLine (PointLine y)) = count_atom x y
entry_counts x (AtLine (CallLine f ys)) = count_in x ys
entry_counts x (AtLine (GiveLine y)) = count_atom x y
entry_counts x (AtLine (CaseLine y arms)) = count_atom x y
entry_counts x (AtLine (IfLine y)) = count_atom x y
entry_counts x (AtLine (TupleLine tys ss packed)) = count_in x ss
entry_counts x l = 0

-- How often a term uses a variable, itself or in a term that is nested in it; a binding, a side, parts, branches. To bind or
-- reach it is no use.
abbrev pub count : Term → Variable → ℕ
count t x = walk (◌+◌) 0 (entry_counts x) t

-- How often a binding uses it.
abbrev pub count_bind : Bind → Variable → ℕ
count_bind b x = walk_bind (◌+◌) 0 (entry_counts x) b

-- How often a side does.
abbrev pub count_side : Side → Variable → ℕ
count_side s x = walk_side (◌+◌) 0 (entry_counts x) s

-- How often parts do.
abbrev pub count_parts : PartTerms → Variable → ℕ
count_parts ps x = walk_parts (◌+◌) 0 (entry_counts x) ps

-- How often branches do.
abbrev pub count_branches : Branches → Variable → ℕ
count_branches bs x = walk_branches (◌+◌) 0 (entry_counts x) bs

-- A body uses a variable once.
abbrev pub is_once : Term → Variable → Bool
is_once body x = count body x == 1

-- Variables were used so often more.
pub record Adds (old new : List (Option ℕ)) (more : Variable → ℕ) : Type 0 where
  pub each : (x : Variable) → number_at new x.0 ≡ number_at old x.0 + more x
