-- Terms whose variables are bound in rising order, and used behind where they are bound.
use Rattle.std.specs.Prelude.{◌≡◌, ℕ, ◌+◌, ◌<◌, ◌≤◌, pos, List, [], ◌∷◌, length, Some}
use Rattle.std.specs.List.{AllByRecursion}
use Rattle.gib_types.specs.declared.table.ConId.{ConId}
use Rattle.gib_types.specs.declared.table.Ty.{Ty}
use Rattle.gib_types.specs.Table.{Table, name_at, scalar_types, tree_types}
use Rattle.gib_syntax.specs.Results.{AreSeveral}
use Rattle.gib_syntax.specs.Declarations.{constructor_named, type_of_name}
use Rattle.gib_core.specs.declared.atom.Variable.{Variable}
use Rattle.gib_core.specs.declared.atom.Atom.{Atom}
use Rattle.gib_core.specs.declared.atom.Atom.TheVariants as atomic
use Rattle.gib_core.specs.Tree.{Term, Then, Write, Point, CallTerm, Give, CaseTerm, IfTerm, Tuple, PartTerms, NoPart, PartThen, parts_count, Bind, Past, One, Both, Prim, Reach, Side, On, Several, Branches, NoBranch, BranchThen, CoreTree}
use Rattle.gib_core.specs.Met.{PrimLine, WriteLine, PointLine, CallLine, GiveLine, CaseLine, IfLine, TupleLine, Body, bodies}
use Rattle.gib_core.specs.Walk.{Entry, AtLine, Each, EachInBind, EachInSide, EachInParts, EachInBranches}
use Rattle.gib_core.specs.Erasing.{literal_of, type_name}

-- A variable below the number, or a literal that a source may have: none of them is negative.
abbrev pub IsFit : ℕ → Atom → Type 0
IsFit n (atomic.Variable x) = x.0 < n
IsFit n (atomic.Whole z) = z ≡ pos (literal_of z)
IsFit n (atomic.Truth b) = Unit {0}

-- Atoms that may be used below the number.
abbrev pub AreFit : ℕ → List Atom → Type 0
AreFit n [] = Unit {0}
AreFit n (x ∷ xs) = IsFit n x × AreFit n xs

-- The variables of fields, or of several parts, rise from the number on.
abbrev pub FieldsOrdered : ℕ → List Variable → Type 0
FieldsOrdered n [] = Unit {0}
FieldsOrdered n (x ∷ xs) = (n ≤ x.0) × FieldsOrdered (x.0 + 1) xs

-- The first number behind them.
abbrev pub behind_fields : ℕ → List Variable → ℕ
behind_fields n [] = n
behind_fields n (x ∷ xs) = behind_fields (x.0 + 1) xs

-- The first number behind the variables of a side.
abbrev pub behind_variables : ℕ → Side → ℕ
behind_variables n (On kind x ty t) = x.0 + 1
behind_variables n (Several xs tys t) = behind_fields n xs

-- The first number behind what a binding binds.
abbrev pub next_of : ℕ → Bind → ℕ
next_of n (Past h k) = n
next_of n (One s) = behind_variables n s
next_of n (Both fork l r) = behind_variables (behind_variables n l) r
next_of n (Prim x f y z) = x.0 + 1
next_of n (Reach y by) = n

-- The constructor is found by its own name.
abbrev pub IsFound : Table → ConId → Type 0
IsFound table k = constructor_named table (name_at table k.0) ≡ Some k.0

-- The type is found by its own name.
abbrev pub IsTypeFound : Table → Ty → Type 0
IsTypeFound table t = type_of_name table.types (type_name table t) ≡ t

-- The types of a tuple are found, and it has as many scalar parts and as many packed ones as there are of these types.
abbrev pub HasAllParts : Table → List Ty → List Atom → PartTerms → Type 0
HasAllParts table tys ss ps = AllByRecursion (IsTypeFound table) tys × (length ss ≡ length (scalar_types tys)) × (parts_count ps ≡ length (tree_types tys))

abbrev mutual
  -- From the number on variables are bound in rising order; below it they may be used. Constructors are found by their names.
  pub IsOrdered : Table → ℕ → Term → Type 0
  IsOrdered table n (Then b rest) = BindOrdered table n b × ((m : ℕ) × (next_of n b ≤ m) × IsOrdered table m rest)
  IsOrdered table n (Write h k ss ps) = IsFound table k × AreFit n ss × AreFit n ps
  IsOrdered table n (Point x) = IsFit n x
  IsOrdered table n (CallTerm f xs) = AreFit n xs
  IsOrdered table n (Give x) = IsFit n x
  IsOrdered table n (CaseTerm x branches) = IsFit n x × BranchesOrdered table n branches
  IsOrdered table n (IfTerm x t u) = IsFit n x × ((m : ℕ) × (n ≤ m) × IsOrdered table m t) × ((m : ℕ) × (n ≤ m) × IsOrdered table m u)
  IsOrdered table n (Tuple tys ss ps) = AreFit n ss × PartsOrdered table n ps × HasAllParts table tys ss ps

  -- So is a binding.
  pub BindOrdered : Table → ℕ → Bind → Type 0
  BindOrdered table n (Past h k) = Unit {0}
  BindOrdered table n (One s) = SideOrdered table n s
  BindOrdered table n (Both fork l r) = SideOrdered table n l × ((m : ℕ) × (behind_variables n l ≤ m) × SideOrdered table m r)
  BindOrdered table n (Prim x f y z) = (n ≤ x.0) × IsFit n y × IsFit n z
  BindOrdered table n (Reach y by) = Unit {0}

  -- So is a side, whose variables are new; several are two at least, and as many as their types.
  pub SideOrdered : Table → ℕ → Side → Type 0
  SideOrdered table n (On kind x ty t) = (n ≤ x.0) × IsOrdered table (x.0 + 1) t
  SideOrdered table n (Several xs tys t) = FieldsOrdered n xs × IsOrdered table (behind_fields n xs) t × AreSeveral xs × (length xs ≡ length tys)

  -- So is each part.
  pub PartsOrdered : Table → ℕ → PartTerms → Type 0
  PartsOrdered table n NoPart = Unit {0}
  PartsOrdered table n (PartThen t ps) = ((m : ℕ) × (n ≤ m) × IsOrdered table m t) × PartsOrdered table n ps

  -- So is each branch, with its fields.
  pub BranchesOrdered : Table → ℕ → Branches → Type 0
  BranchesOrdered table n NoBranch = Unit {0}
  BranchesOrdered table n (BranchThen k xs t rest) =
      ((m : ℕ) × (n ≤ m) × FieldsOrdered m xs × IsFound table k × ((l : ℕ) × (behind_fields m xs ≤ l) × IsOrdered table l t)) × BranchesOrdered table n rest

-- Each body is ordered behind its parameters.
abbrev pub AreOrdered : CoreTree → Type 0
AreOrdered core = AllByRecursion (λ (b : Body). IsOrdered core.table (length b.parameters) b.term) (bodies core)

-- No literal is negative.

-- An atom is no negative number.
abbrev pub IsNatural : Atom → Type 0
IsNatural (atomic.Variable x) = Unit {0}
IsNatural (atomic.Whole z) = z ≡ pos (literal_of z)
IsNatural (atomic.Truth b) = Unit {0}

-- None of the atoms is.
abbrev pub AreNaturalAtoms : List Atom → Type 0
AreNaturalAtoms [] = Unit {0}
AreNaturalAtoms (x ∷ xs) = IsNatural x × AreNaturalAtoms xs

-- No atom of an entry is.
abbrev pub IsNaturalEntry : Entry → Type 0
IsNaturalEntry (AtLine (PrimLine x f y z)) = IsNatural y × IsNatural z
IsNaturalEntry (AtLine (WriteLine h k ss ps)) = AreNaturalAtoms ss × AreNaturalAtoms ps
IsNaturalEntry (AtLine (PointLine x)) = IsNatural x
IsNaturalEntry (AtLine (CallLine f xs)) = AreNaturalAtoms xs
IsNaturalEntry (AtLine (GiveLine x)) = IsNatural x
IsNaturalEntry (AtLine (CaseLine x arms)) = IsNatural x
IsNaturalEntry (AtLine (IfLine x)) = IsNatural x
IsNaturalEntry (AtLine (TupleLine tys ss packed)) = AreNaturalAtoms ss
IsNaturalEntry l = Unit {0}

-- A term has no negative literal; nor has a binding, a side, have parts, have branches.
abbrev pub IsNaturalTerm : Term → Type 0
IsNaturalTerm t = Each IsNaturalEntry t

-- A binding has no negative literal.
abbrev pub IsNaturalBind : Bind → Type 0
IsNaturalBind b = EachInBind IsNaturalEntry b

-- A side has no negative literal.
abbrev pub IsNaturalSide : Side → Type 0
IsNaturalSide s = EachInSide IsNaturalEntry s

-- Parts have no negative literal.
abbrev pub AreNaturalParts : PartTerms → Type 0
AreNaturalParts ps = EachInParts IsNaturalEntry ps

-- Branches have no negative literal.
abbrev pub AreNaturalBranches : Branches → Type 0
AreNaturalBranches bs = EachInBranches IsNaturalEntry bs

-- No body of a core has a negative literal; no source has one.
abbrev pub AreNatural : CoreTree → Type 0
AreNatural core = AllByRecursion (λ (b : Body). IsNaturalTerm b.term) (bodies core)
