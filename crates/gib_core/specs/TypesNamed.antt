-- The types that a core names are declared.
use Rattle.std.specs.Prelude.{ℕ, [], ◌∷◌, length}
use Rattle.std.specs.List.{AllByRecursion}
use Rattle.gib_types.specs.Table.{IsTyBelow}
use Rattle.gib_syntax.specs.Results as results
use Rattle.gib_core.specs.Tree.{Term, Bind, Side, PartTerms, Branches, FunctionTerm, CoreTree}
use Rattle.gib_core.specs.Met.{SideLine, SeveralLine, TupleLine, Body, bodies}
use Rattle.gib_core.specs.Walk.{Entry, AtLine, Each, EachInBind, EachInSide, EachInParts, EachInBranches}
use Rattle.gib_core.specs.Parts.{AreDeclared}

-- The types of each function and of main are declared.
pub record SignaturesDeclared (core : CoreTree) : Type 0 where
  pub functions : AllByRecursion (λ (f : FunctionTerm). AreDeclared (length core.table.types) f.parameters f.result) core.functions
  pub main : AreDeclared (length core.table.types) (core.main.parameter ∷ []) (results.One core.main.result)

-- The types of the variables that an entry binds to a term, and those of a tuple's parts, are declared, where there are so many types.
abbrev pub IsTypeDeclared : ℕ → Entry → Type 0
IsTypeDeclared n (AtLine (SideLine kind x ty)) = IsTyBelow n ty
IsTypeDeclared n (AtLine (SeveralLine xs tys)) = AllByRecursion (IsTyBelow n) tys
IsTypeDeclared n (AtLine (TupleLine tys ss packed)) = AllByRecursion (IsTyBelow n) tys
IsTypeDeclared n l = Unit {0}

-- The types that a term names are declared; those of a binding, of a side, of parts, of branches.
abbrev pub TypesDeclared : ℕ → Term → Type 0
TypesDeclared n t = Each (IsTypeDeclared n) t

-- The types that a binding names are declared.
abbrev pub BindDeclared : ℕ → Bind → Type 0
BindDeclared n b = EachInBind (IsTypeDeclared n) b

-- The types that a side names are declared.
abbrev pub SideDeclared : ℕ → Side → Type 0
SideDeclared n s = EachInSide (IsTypeDeclared n) s

-- The types that parts name are declared.
abbrev pub PartsDeclared : ℕ → PartTerms → Type 0
PartsDeclared n ps = EachInParts (IsTypeDeclared n) ps

-- The types that branches name are declared.
abbrev pub BranchesDeclared : ℕ → Branches → Type 0
BranchesDeclared n bs = EachInBranches (IsTypeDeclared n) bs

-- Those of each body.
abbrev pub AllTypesDeclared : CoreTree → Type 0
AllTypesDeclared core = AllByRecursion (λ (b : Body). TypesDeclared (length core.table.types) b.term) (bodies core)
