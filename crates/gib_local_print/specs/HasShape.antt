-- Cores whose form has a text: no marks and no results of several parts, a head without packed fields is filled at once, and a case has a branch.
use Rattle.std.specs.Prelude.{◌≡◌, ◌<◌, Bool, true, false, length}
use Rattle.std.specs.List.{AllByRecursion}
use Rattle.gib_types.specs.Table.{Table}
use Rattle.gib_syntax.specs.Results as results
use Rattle.gib_syntax.specs.Results.{Results}
use Rattle.gib_core.specs.Tree.{Term, Then, Write, Point, CallTerm, Give, CaseTerm, IfTerm, Tuple, Bind, Past, One, Both, Prim, Reach, Side, On, Several, Branches, NoBranch, BranchThen, FunctionTerm, CoreTree}
use Rattle.gib_core.specs.Met.{Body, bodies}
use Rattle.gib_local.specs.Building.{is_flat}
use Rattle.gib_local_print.specs.HasText.{IsBranch}

-- A term fills a head.
abbrev pub IsWrite : Term → Type 0
IsWrite (Write h k ss ps) = Unit {0}
IsWrite (Then b t) = ⊥
IsWrite (Point x) = ⊥
IsWrite (CallTerm f xs) = ⊥
IsWrite (Give x) = ⊥
IsWrite (CaseTerm x bs) = ⊥
IsWrite (IfTerm x t u) = ⊥
IsWrite (Tuple ts ss ps) = ⊥

-- Behind a head: that of a constructor without packed fields is filled at once.
abbrev pub IsFilled : Bool → Term → Type 0
IsFilled true rest = IsWrite rest
IsFilled false rest = Unit {0}

abbrev mutual
  pub HasShape : Table → Term → Type 0
  HasShape tb (Then b rest) = ShapeBefore tb b rest × HasShape tb rest
  HasShape tb (Write h k ss ps) = Unit {0}
  HasShape tb (Point x) = Unit {0}
  HasShape tb (CallTerm f xs) = Unit {0}
  HasShape tb (Give x) = Unit {0}
  HasShape tb (CaseTerm x bs) = IsBranch bs × HasShapes tb bs
  HasShape tb (IfTerm x t u) = HasShape tb t × HasShape tb u
  HasShape tb (Tuple ts ss ps) = ⊥

  -- A binding before a term.
  pub ShapeBefore : Table → Bind → Term → Type 0
  ShapeBefore tb (Past h k) rest = IsFilled (is_flat tb k) rest
  ShapeBefore tb (One s) rest = SideShape tb s
  ShapeBefore tb (Both fork l r) rest = (fork ≡ false) × SideShape tb l × SideShape tb r
  ShapeBefore tb (Prim x f y z) rest = Unit {0}
  ShapeBefore tb (Reach y by) rest = Unit {0}

  -- A side.
  pub SideShape : Table → Side → Type 0
  SideShape tb (On kind x t u) = HasShape tb u
  SideShape tb (Several xs ts u) = ⊥

  -- Branches.
  pub HasShapes : Table → Branches → Type 0
  HasShapes tb NoBranch = Unit {0}
  HasShapes tb (BranchThen k xs t bs) = HasShape tb t × HasShapes tb bs

-- One thing is given.
abbrev pub IsOne : {A : Type 0} → Results A → Type 0
IsOne (results.One t) = Unit {0}
IsOne (results.Several ts) = ⊥

-- Each body has such a form, and each function a parameter and one result.
pub record AreShaped (core : CoreTree) : Type 0 where
  pub bodies : AllByRecursion (λ (b : Body). HasShape core.table b.term) (bodies core)
  pub parameters : AllByRecursion (λ (f : FunctionTerm). 0 < length f.parameters) core.functions
  pub single : AllByRecursion (λ (f : FunctionTerm). IsOne f.result) core.functions
