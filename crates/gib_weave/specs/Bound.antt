-- What a side binds, and what a stolen side gives for it.
use Rattle.std.specs.Prelude.{◌≡◌, ◌≤◌, ℕ, pos, List, [], ◌∷◌, length, map}
use Rattle.gib_types.specs.declared.table.Ty.{Ty}
use Rattle.gib_types.specs.Tree.{Datum, whole}
use Rattle.gib_syntax.specs.Results as results
use Rattle.gib_syntax.specs.Results.{Results, AreSeveral}
use Rattle.gib_syntax.specs.Meaning.{value_in, tuple, Environment}
use Rattle.gib_core.specs.declared.atom.Variable.{Variable}
use Rattle.gib_core.specs.Tree as t
use Rattle.gib_core.specs.Tree.{Side}
use Rattle.gib_core.specs.Fits.{Scope, param_sort}

-- A variable of the type, or variables of these types.
pub data Bound : Type 0 where
  Single : (y : ℕ) (ty : Ty) → Bound
  Multiple : (xs : List Variable) (tys : List Ty) → Bound

-- What a side binds.
abbrev pub bound_of : Side → Bound
bound_of (t.On k x ty u) = Single x.0 ty
bound_of (t.Several xs tys u) = Multiple xs tys

-- Of which type it is.
abbrev pub bound_type : Bound → Results Ty
bound_type (Single y ty) = results.One ty
bound_type (Multiple xs tys) = results.Several tys

-- Its slots.
abbrev pub bound_slots : Bound → List ℕ
bound_slots (Single y ty) = y ∷ []
bound_slots (Multiple xs tys) = map (λ (x : Variable). x.0) xs

-- The values that variables have.
abbrev pub values_of : Environment → List Variable → List Datum
values_of env xs = map (λ (x : Variable). value_in env x.0) xs

-- The values that variables get of parts; where one is missing, which typing excludes, it is 0.
abbrev pub values_for : List Variable → List Datum → List Datum
values_for [] vs = []
values_for (x ∷ xs) [] = whole (pos 0) ∷ values_for xs []
values_for (x ∷ xs) (v ∷ vs) = v ∷ values_for xs vs

-- Its value: the variable's, or those of its variables as parts.
abbrev pub bound_value : Environment → Bound → Datum
bound_value env (Single y ty) = value_in env y
bound_value env (Multiple xs tys) = tuple (values_of env xs)

-- The variables are bound to values of these types.
abbrev pub AreBound : Scope → List Ty → List Variable → Type 0
AreBound sc [] [] = Unit {0}
AreBound sc [] (x ∷ xs) = ⊥
AreBound sc (ty ∷ tys) [] = ⊥
AreBound sc (ty ∷ tys) (x ∷ xs) = (sc x.0 ≡ param_sort ty) × AreBound sc tys xs

-- It is bound: a variable, or several, two to eight.
abbrev pub IsBound : Scope → Bound → Type 0
IsBound sc (Single y ty) = sc y ≡ param_sort ty
IsBound sc (Multiple xs tys) = (AreSeveral tys × (length tys ≤ 8)) × AreBound sc tys xs
