-- Which parameters are ended, and which calls tell an end.
use Rattle.std.specs.Prelude.{ℕ, zero, suc, ◌==◌, Bool, true, false, ◌||◌, ◌&&◌, List, [], ◌∷◌, ◌++◌, length, Option, Some, None, if◌then◌else◌, filter}
use Rattle.gib_types.specs.declared.table.Ty.{Ty}
use Rattle.gib_types.specs.declared.table.Ty.TheVariants as ty
use Rattle.gib_types.specs.Table.{Table, fields_at}
use Rattle.gib_core.specs.declared.atom.Variable.{Variable}
pub use Rattle.gib_core.specs.declared.atom.Ended.{Ended}
use Rattle.gib_core.specs.declared.atom.Atom.{Atom}
use Rattle.gib_core.specs.declared.atom.Atom.TheVariants as a
use Rattle.gib_core.specs.Tree.{Term, Then, Write, Point, CallTerm, Give, CaseTerm, IfTerm, Tuple, PartTerms, NoPart, PartThen, Bind, Past, One, Both, Prim, Reach, Side, On, Several, Branches, NoBranch, BranchThen, is_variable, FunctionTerm, CoreTree}
use Rattle.gib_core.specs.Meaning.{function_at}

-- The parameter is among them.
abbrev pub has_ended : List Ended → ℕ → ℕ → Bool
has_ended [] f k = false
has_ended (e ∷ es) f k = (e.function == f && e.place == k) || has_ended es f k

-- A call of f has z at an ended parameter, from the place k on.
abbrev pub call_ends : List Ended → (f k : ℕ) → List Atom → Variable → Bool
call_ends es f k [] z = false
call_ends es f k (x ∷ xs) z = (is_variable z x && has_ended es f k) || call_ends es f (suc k) xs z

-- The whole term is such a call.
abbrev pub tells : List Ended → Term → Variable → Bool
tells es (Then b u) z = false
tells es (Write h k ss ps) z = false
tells es (Point x) z = false
tells es (CallTerm f xs) z = call_ends es f.0 0 xs z
tells es (Give x) z = false
tells es (CaseTerm x bs) z = false
tells es (IfTerm x t u) z = false
tells es (Tuple tys ss ps) z = false

-- A binding of one variable tells the end of z: outside any `par`.
abbrev pub is_telling : List Ended → Bind → Variable → Bool
is_telling es (Past h k) z = false
is_telling es (One (On kind x ty t)) z = tells es t z
is_telling es (One (Several xs tys t)) z = false
is_telling es (Both fork l r) z = false
is_telling es (Prim x f v w) z = false
is_telling es (Reach y by) z = false

-- The last packed one of an arm's variables.
abbrev pub last_packed : Option Variable → List Ty → List Variable → Option Variable
last_packed o [] ys = o
last_packed o (t ∷ ts) [] = o
last_packed o (ty.Whole ∷ ts) (y ∷ ys) = last_packed o ts ys
last_packed o (ty.Truth ∷ ts) (y ∷ ys) = last_packed o ts ys
last_packed o (ty.Tree t ∷ ts) (y ∷ ys) = last_packed (Some y) ts ys

-- A claim on a variable, where there is one.
abbrev pub if_some : Option Variable → (Variable → Bool) → Bool
if_some None f = true
if_some (Some y) f = f y

abbrev mutual
  -- The end of z is known at the end of the term.
  pub is_known : Table → List Ended → Term → Variable → Bool
  is_known table es (Then b u) z = is_telling es b z || is_known table es u z
  is_known table es (Write h k ss ps) z = false
  is_known table es (Point x) z = false
  is_known table es (CallTerm f xs) z = call_ends es f.0 0 xs z
  is_known table es (Give x) z = false
  is_known table es (CaseTerm x bs) z = all_known table es bs z || (is_variable z x && lasts_known table es bs)
  is_known table es (IfTerm x t u) z = is_known table es t z && is_known table es u z
  is_known table es (Tuple tys ss ps) z = false

  -- In each branch.
  pub all_known : Table → List Ended → Branches → Variable → Bool
  all_known table es NoBranch z = true
  all_known table es (BranchThen k xs t bs) z = is_known table es t z && all_known table es bs z

  -- In each branch that of the last packed field, where there is one.
  pub lasts_known : Table → List Ended → Branches → Bool
  lasts_known table es NoBranch = true
  lasts_known table es (BranchThen k xs t bs) = if_some (last_packed None (fields_at table k.0) xs) (λ y. is_known table es t y) && lasts_known table es bs

-- The end of the k-th parameter is known at the end of a function's body.
abbrev pub known_in : Table → List Ended → ℕ → Option FunctionTerm → Bool
known_in table es k None = false
known_in table es k (Some g) = is_known table es g.body (record { 0 = k })

-- The parameter's end is, where these are ended.
abbrev pub stays_ended : CoreTree → List Ended → Ended → Bool
stays_ended core es e = known_in core.table es e.place (function_at core.functions e.function)

-- Those of them that are.
abbrev pub narrowed : CoreTree → List Ended → List Ended
narrowed core es = filter (stays_ended core es) es

-- So many times.
abbrev pub settled : CoreTree → ℕ → List Ended → List Ended
settled core zero es = es
settled core (suc n) es = settled core n (narrowed core es)

-- The packed ones of parameters, from a place on.
abbrev pub packed_from : (f k : ℕ) → List Ty → List Ended
packed_from f k [] = []
packed_from f k (ty.Whole ∷ ts) = packed_from f (suc k) ts
packed_from f k (ty.Truth ∷ ts) = packed_from f (suc k) ts
packed_from f k (ty.Tree t ∷ ts) = record { function = f; place = k } ∷ packed_from f (suc k) ts

-- The packed parameters of all functions.
abbrev pub all_packed : List FunctionTerm → List Ended
all_packed [] = []
all_packed (g ∷ gs) = packed_from g.name.0 0 g.parameters ++ all_packed gs

-- The ended parameters: the greatest set that stays as it is. A core that is not marked has none.
abbrev pub ended : CoreTree → List Ended
ended core = if core.marked then settled core (length (all_packed core.functions)) (all_packed core.functions) else []

-- A call of f has some variable at an ended parameter, from the place k on.
abbrev pub call_ends_some : List Ended → (f k : ℕ) → List Atom → Bool
call_ends_some es f k [] = false
call_ends_some es f k (a.Variable z ∷ xs) = has_ended es f k || call_ends_some es f (suc k) xs
call_ends_some es f k (a.Whole z ∷ xs) = call_ends_some es f (suc k) xs
call_ends_some es f k (a.Truth b ∷ xs) = call_ends_some es f (suc k) xs

abbrev mutual
  -- A term has such a call, outside the sides of each `par`.
  pub has_telling : List Ended → Term → Bool
  has_telling es (Then b u) = bind_telling es b || has_telling es u
  has_telling es (Write h k ss ps) = false
  has_telling es (Point x) = false
  has_telling es (CallTerm f xs) = call_ends_some es f.0 0 xs
  has_telling es (Give x) = false
  has_telling es (CaseTerm x bs) = branches_telling es bs
  has_telling es (IfTerm x t u) = has_telling es t || has_telling es u
  has_telling es (Tuple tys ss ps) = parts_telling es ps

  -- A binding has one, outside the sides of a `par`.
  pub bind_telling : List Ended → Bind → Bool
  bind_telling es (Past h k) = false
  bind_telling es (One s) = side_telling es s
  bind_telling es (Both fork l r) = false
  bind_telling es (Prim x f v w) = false
  bind_telling es (Reach y by) = false

  -- The term of a side has one.
  pub side_telling : List Ended → Side → Bool
  side_telling es (On kind x ty t) = has_telling es t
  side_telling es (Several xs tys t) = has_telling es t

  -- One of the parts has one.
  pub parts_telling : List Ended → PartTerms → Bool
  parts_telling es NoPart = false
  parts_telling es (PartThen t ps) = has_telling es t || parts_telling es ps

  -- One of the branches has one.
  pub branches_telling : List Ended → Branches → Bool
  branches_telling es NoBranch = false
  branches_telling es (BranchThen k xs t bs) = has_telling es t || branches_telling es bs

-- Some parameter of the function is ended.
abbrev pub some_ended : List Ended → ℕ → Bool
some_ended [] f = false
some_ended (e ∷ es) f = e.function == f || some_ended es f

-- Where a term stands: in a function whose ends are told, which has such calls or parameters; in a side of a `par`.
pub record Within : Type 0 where
  pub ends : Bool
  pub par : Bool

-- In a function's body, outside each `par`.
abbrev pub within_function : CoreTree → FunctionTerm → Within
within_function core g = record { ends = some_ended (ended core) g.name.0 || has_telling (ended core) g.body; par = false }

-- The end of main's parameter, of this type, is known at the end of its body.
abbrev pub known_in_main : CoreTree → Ty → Bool
known_in_main core ty.Whole = false
known_in_main core ty.Truth = false
known_in_main core (ty.Tree t) = is_known core.table (ended core) core.main.body (record { 0 = 0 })

-- Main's parameter is ended. No call has it, so no other parameter hangs on it.
abbrev pub main_ended : CoreTree → Bool
main_ended core = if core.marked then known_in_main core core.main.parameter else false

-- In main's body, outside each `par`.
abbrev pub within_main : CoreTree → Within
within_main core = record { ends = main_ended core || has_telling (ended core) core.main.body; par = false }

-- In a side of a `par`.
abbrev pub within_par : Within → Within
within_par w = record { ends = w.ends; par = true }
