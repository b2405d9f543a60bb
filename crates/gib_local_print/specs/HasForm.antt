-- The form that the passes give to cores: no `par` is marked, a head without packed fields is filled at once, and a case has a branch.
use Rattle.std.specs.Prelude.{◌≡◌, ◌<◌, Bool, true, false, length}
use Rattle.std.specs.List.{AllByRecursion}
use Rattle.gib_types.specs.Table.{Table}
use Rattle.gib_core.specs.Tree.{Term, Then, Write, Point, CallTerm, Give, CaseTerm, IfTerm, Tuple, PartTerms, NoPart, PartThen}
use Rattle.gib_core.specs.Tree.{Bind, Past, One, Both, Prim, Reach, Side, On, Several, Branches, NoBranch, BranchThen, FunctionTerm, CoreTree}
use Rattle.gib_core.specs.Met.{SeveralLine, TupleLine, Body, bodies}
use Rattle.gib_core.specs.Reaching.{uses}
use Rattle.gib_core.specs.Walk.{Entry, AtLine, Each}
use Rattle.gib_local.specs.Building.{is_flat}
use Rattle.gib_local_print.specs.HasText.{IsBranch}
use Rattle.gib_local_print.specs.HasShape.{IsOne}

-- A term fills a head, behind fields that it uses, each reached just before.
abbrev pub FillsNext : Term → Type 0
FillsNext (Then (Reach y by) rest) = (uses rest y ≡ true) × FillsNext rest
FillsNext (Write h k ss ps) = Unit {0}
FillsNext t = ⊥

-- Behind a head: that of a constructor without packed fields is filled so.
abbrev pub IsFilledSo : (Term → Type 0) → Bool → Term → Type 0
IsFilledSo Fills true rest = Fills rest
IsFilledSo Fills false rest = Unit {0}

abbrev mutual
  -- A term has the form, where heads without packed fields are filled so.
  pub HasForm : (Term → Type 0) → Table → Term → Type 0
  HasForm Fills tb (Then b rest) = FormBefore Fills tb b rest × HasForm Fills tb rest
  HasForm Fills tb (Write h k ss ps) = Unit {0}
  HasForm Fills tb (Point x) = Unit {0}
  HasForm Fills tb (CallTerm f xs) = Unit {0}
  HasForm Fills tb (Give x) = Unit {0}
  HasForm Fills tb (CaseTerm x bs) = IsBranch bs × BranchesForm Fills tb bs
  HasForm Fills tb (IfTerm x t u) = HasForm Fills tb t × HasForm Fills tb u
  HasForm Fills tb (Tuple ts ss ps) = PartsForm Fills tb ps

  -- So has a binding before a term.
  pub FormBefore : (Term → Type 0) → Table → Bind → Term → Type 0
  FormBefore Fills tb (Past h k) rest = IsFilledSo Fills (is_flat tb k) rest
  FormBefore Fills tb (One s) rest = SideForm Fills tb s
  FormBefore Fills tb (Both fork l r) rest = (fork ≡ false) × SideForm Fills tb l × SideForm Fills tb r
  FormBefore Fills tb (Prim x f y z) rest = Unit {0}
  FormBefore Fills tb (Reach y by) rest = Unit {0}

  -- So has a side.
  pub SideForm : (Term → Type 0) → Table → Side → Type 0
  SideForm Fills tb (On kind x t u) = HasForm Fills tb u
  SideForm Fills tb (Several xs ts u) = HasForm Fills tb u

  -- So have parts.
  pub PartsForm : (Term → Type 0) → Table → PartTerms → Type 0
  PartsForm Fills tb NoPart = Unit {0}
  PartsForm Fills tb (PartThen t ps) = HasForm Fills tb t × PartsForm Fills tb ps

  -- So have branches.
  pub BranchesForm : (Term → Type 0) → Table → Branches → Type 0
  BranchesForm Fills tb NoBranch = Unit {0}
  BranchesForm Fills tb (BranchThen k xs t bs) = HasForm Fills tb t × BranchesForm Fills tb bs

-- Each body has the form, and each function has a parameter.
pub record AreFormed (core : CoreTree) : Type 0 where
  pub bodies : AllByRecursion (λ (b : Body). HasForm FillsNext core.table b.term) (bodies core)
  pub parameters : AllByRecursion (λ (f : FunctionTerm). 0 < length f.parameters) core.functions

-- No several parts are bound or given at an entry.
abbrev pub IsSingleEntry : Entry → Type 0
IsSingleEntry (AtLine (SeveralLine xs tys)) = ⊥
IsSingleEntry (AtLine (TupleLine tys ss packed)) = ⊥
IsSingleEntry l = Unit {0}

-- No several parts are bound or given in a core.
pub record AreSingle (core : CoreTree) : Type 0 where
  pub bodies : AllByRecursion (λ (b : Body). Each IsSingleEntry b.term) (bodies core)
  pub results : AllByRecursion (λ (f : FunctionTerm). IsOne f.result) core.functions
