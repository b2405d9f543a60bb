-- Which cores have a LoCal text.
use Rattle.std.specs.Prelude.{◌≡◌, ◌<◌, ℕ, pos, ◌+◌, Bool, true, false, List, [], ◌∷◌, map, length}
use Rattle.std.specs.List.{AllByRecursion}
use Rattle.gib_types.specs.declared.table.Ty.{Ty}
use Rattle.gib_types.specs.declared.table.ConId.{ConId}
use Rattle.gib_types.specs.Table.{Table, fields_at, scalar_types, tree_types, is_scalar}
use Rattle.gib_syntax.specs.Declarations.{type_of_name, table_of_program}
use Rattle.gib_syntax.specs.Tree.{DataTree}
use Rattle.gib_syntax.specs.Results as results
use Rattle.gib_syntax.specs.Results.{Results}
use Rattle.gib_core.specs.declared.atom.Variable.{Variable}
use Rattle.gib_core.specs.declared.atom.Atom.{Atom}
use Rattle.gib_core.specs.declared.atom.Atom.TheVariants as a
use Rattle.gib_core.specs.declared.atom.Kind.{Kind}
use Rattle.gib_core.specs.declared.atom.Kind.TheVariants.{Here, Region, Scalar}
use Rattle.gib_core.specs.declared.atom.Access.{Access}
use Rattle.gib_core.specs.declared.atom.Access.TheVariants as by
use Rattle.gib_core.specs.Erasing.{literal_of}
use Rattle.gib_core.specs.Ordered.{IsFound}
use Rattle.gib_core.specs.Tree.{Term, Then, Write, Point, CallTerm, Give, CaseTerm, IfTerm, Tuple, Bind, Past, One, Both, Prim, Reach, Side, On, Several, Branches, NoBranch, BranchThen, variables_from, FunctionTerm, CoreTree}
use Rattle.gib_core.specs.Met.{Destination, Nowhere, Empty, Open, InParts, result_place}
use Rattle.gib_core.specs.Rules.{has_room, is_nowhere}
use Rattle.gib_local.specs.Building.{Program, is_flat, is_in, gives_scalar, declared}
use Rattle.gib_local_print.specs.Printing.{Naming, type_text, side_place, behind_one, behind_bind, function_text, local_of}

-- An atom is a literal that a text may have, or one of these variables.
abbrev pub HasAtom : List ℕ → Atom → Type 0
HasAtom xs (a.Variable x) = is_in xs x.0 ≡ true
HasAtom xs (a.Whole z) = z ≡ pos (literal_of z)
HasAtom xs (a.Truth b) = Unit {0}

-- An atom is one of these variables.
abbrev pub HasVariable : List ℕ → Atom → Type 0
HasVariable xs (a.Variable x) = is_in xs x.0 ≡ true
HasVariable xs (a.Whole z) = ⊥
HasVariable xs (a.Truth b) = ⊥

-- How a field is reached.
abbrev pub HasAccess : List ℕ → Access → Type 0
HasAccess xs by.Offset = Unit {0}
HasAccess xs (by.Skip z) = is_in xs z.0 ≡ true
HasAccess xs (by.End z) = is_in xs z.0 ≡ true

-- As many scalars and packed values as a constructor has, each with a text.
pub record HasFields (tb : Table) (xs : List ℕ) (k : ConId) (ss ps : List Atom) : Type 0 where
  pub found : IsFound tb k
  pub scalars : length ss ≡ length (scalar_types (fields_at tb k.0))
  pub trees : length ps ≡ length (tree_types (fields_at tb k.0))
  pub scalar_atoms : AllByRecursion (HasAtom xs) ss
  pub tree_atoms : AllByRecursion (HasAtom xs) ps

-- The head of this variable and constructor is open.
abbrev pub IsOpenAt : Destination → Variable → ConId → Type 0
IsOpenAt Nowhere h k = ⊥
IsOpenAt Empty h k = ⊥
IsOpenAt (InParts ts) h k = ⊥
IsOpenAt (Open g c standing) h k = (g ≡ h) × (c ≡ k)

-- A term fills this head.
abbrev pub FillsAtOnce : Table → List ℕ → Variable → ConId → Term → Type 0
FillsAtOnce tb xs h k (Write g c ss ps) = (g ≡ h) × (c ≡ k) × HasFields tb xs k ss ps
FillsAtOnce tb xs h k (Then b t) = ⊥
FillsAtOnce tb xs h k (Point x) = ⊥
FillsAtOnce tb xs h k (CallTerm f ys) = ⊥
FillsAtOnce tb xs h k (Give x) = ⊥
FillsAtOnce tb xs h k (CaseTerm x bs) = ⊥
FillsAtOnce tb xs h k (IfTerm x t u) = ⊥
FillsAtOnce tb xs h k (Tuple ts ss ps) = ⊥

-- A side of a kind may stand at a destination, with a type.
abbrev pub MayStand : Table → Destination → Kind → Ty → Type 0
MayStand tb d Here t = (has_room tb d ≡ true) × (is_scalar t ≡ false)
MayStand tb d Region t = is_scalar t ≡ false
MayStand tb d Scalar t = is_scalar t ≡ true

-- The variables in scope behind a side.
abbrev pub scope_one : List ℕ → Side → List ℕ
scope_one xs (On kind x t u) = x.0 ∷ xs
scope_one xs (Several ys ts u) = xs

-- Those behind a binding.
abbrev pub scope_bind : List ℕ → Bind → List ℕ
scope_bind xs (Past h k) = xs
scope_bind xs (One s) = scope_one xs s
scope_bind xs (Both fork l r) = scope_one (scope_one xs l) r
scope_bind xs (Prim x f y z) = x.0 ∷ xs
scope_bind xs (Reach y way) = xs

-- As many variables from a number on come into scope.
abbrev pub scope_from : {A : Type 0} → ℕ → List A → List ℕ → List ℕ
scope_from n [] xs = xs
scope_from n (y ∷ ys) xs = scope_from (n + 1) ys (n ∷ xs)

-- The type is written by its name.
abbrev pub IsWritten : Table → Ty → Type 0
IsWritten tb t = type_of_name tb.types (type_text tb t) ≡ t

-- There is a branch.
abbrev pub IsBranch : Branches → Type 0
IsBranch NoBranch = ⊥
IsBranch (BranchThen k xs t bs) = Unit {0}

-- A head with packed fields is opened at an empty destination; one without them is filled at once.
abbrev pub OpensText : Program → Variable → ConId → Term → List ℕ → Destination → ℕ → ℕ → Type 0 → Bool → Type 0
OpensText p h k rest xs d n m more true = (h.0 ≡ n) × (m ≡ n + 1) × (is_nowhere d ≡ false) × FillsAtOnce p.table xs h k rest
OpensText p h k rest xs d n m more false = (h.0 ≡ n) × (d ≡ Empty) × IsFound p.table k × more

abbrev mutual
  -- A term has a text at a destination, with these variables in scope; it binds the numbers from n on, and m is the next.
  pub HasText : Program → Term → List ℕ → Destination → ℕ → ℕ → Type 0
  HasText p (Then b rest) xs d n m = StartsText p b rest xs d n m (λ k. HasText p rest (scope_bind xs b) (behind_bind d b) k m)
  HasText p (Write h k ss ps) xs d n m = (n ≡ m) × (is_flat p.table k ≡ false) × IsOpenAt d h k × HasFields p.table xs k ss ps
  HasText p (Point x) xs d n m = (n ≡ m) × (is_nowhere d ≡ false) × HasVariable xs x
  HasText p (CallTerm f ys) xs d n m = (n ≡ m) × (gives_scalar p.functions p.table.types f.0 ≡ is_nowhere d) × AllByRecursion (HasAtom xs) ys
  HasText p (Give x) xs d n m = (n ≡ m) × HasAtom xs x
  HasText p (CaseTerm x bs) xs d n m = HasVariable xs x × IsBranch bs × HasBranches p bs xs d n m
  HasText p (IfTerm x t u) xs d n m = HasAtom xs x × ((k : ℕ) × HasText p t xs d n k × HasText p u xs d k m)
  HasText p (Tuple ts ss ps) xs d n m = ⊥

  -- A binding has a text before the rest of its line, of which this is said by the next number.
  pub StartsText : Program → Bind → Term → List ℕ → Destination → ℕ → ℕ → (ℕ → Type 0) → Type 0
  StartsText p (Past h k) rest xs d n m more = OpensText p h k rest xs d n m (more (n + 1)) (is_flat p.table k)
  StartsText p (One s) rest xs d n m more = (k : ℕ) × HasSide p s xs d n k × more k
  StartsText p (Both fork l r) rest xs d n m more = (fork ≡ false) × ((k : ℕ) × HasSide p l xs d n k × ((j : ℕ) × HasSide p r xs (behind_one d l) k j × more j))
  StartsText p (Prim x f y z) rest xs d n m more = (x.0 ≡ n) × HasAtom xs y × HasAtom xs z × more (n + 1)
  StartsText p (Reach y way) rest xs d n m more = (is_in xs y.0 ≡ true) × HasAccess xs way × more n

  -- A side.
  pub HasSide : Program → Side → List ℕ → Destination → ℕ → ℕ → Type 0
  HasSide p (On kind x t u) xs d n m = (x.0 ≡ n) × MayStand p.table d kind t × IsWritten p.table t × HasText p u xs (side_place kind) (n + 1) m
  HasSide p (Several ys ts u) xs d n m = ⊥

  -- Branches.
  pub HasBranches : Program → Branches → List ℕ → Destination → ℕ → ℕ → Type 0
  HasBranches p NoBranch xs d n m = n ≡ m
  HasBranches p (BranchThen k ys t bs) xs d n m =
      (ys ≡ variables_from n ys) × IsFound p.table k × ((j : ℕ) × HasText p t (scope_from n ys xs) d (n + length ys) j × HasBranches p bs xs d j m)

-- The body of a function that gives one thing has a text behind its parameters, one at least.
pub record HasBody (p : Program) (parameters : List Ty) (result : Ty) (t : Term) : Type 0 where
  pub some : 0 < length parameters
  pub next : ℕ
  pub term : HasText p t (scope_from 0 parameters []) (result_place (results.One result)) (length parameters) next
  pub parameters_written : AllByRecursion (IsWritten p.table) parameters
  pub result_written : IsWritten p.table result

-- The same of what a function gives; several parts have no text.
abbrev pub HasResult : Program → List Ty → Results Ty → Term → Type 0
HasResult p parameters (results.One t) u = HasBody p parameters t u
HasResult p parameters (results.Several ts) u = ⊥

-- What a function gives is of a type that is written by its name.
abbrev pub IsResultWritten : Table → Results Ty → Type 0
IsResultWritten tb (results.One t) = IsWritten tb t
IsResultWritten tb (results.Several ts) = ⊥

-- The program round the text of a core.
abbrev pub program_of : Naming → CoreTree → Program
program_of nm core = record { table = core.table; functions = map (function_text nm core.table) core.functions }

-- A core in which ends of values are told.
abbrev pub with_ends : CoreTree → CoreTree
with_ends core = record core { marked = true }

-- A core has a text, with the data declarations of its program.
pub record HasCore (nm : Naming) (datas : List DataTree) (core : CoreTree) : Type 0 where
  pub table : table_of_program (declared (local_of nm datas core)) ≡ core.table
  pub functions : AllByRecursion (λ (f : FunctionTerm). HasResult (program_of nm core) f.parameters f.result f.body) core.functions
  pub main : HasBody (program_of nm core) (core.main.parameter ∷ []) core.main.result core.main.body
  pub offsets : AllByRecursion (IsFound core.table) core.offsets
