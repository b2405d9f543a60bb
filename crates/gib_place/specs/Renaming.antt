-- Variables by other numbers.
use Rattle.std.specs.Prelude.{ℕ, [], ◌∷◌, map}
use Rattle.gib_syntax.specs.Meaning.{Environment}
use Rattle.gib_core.specs.declared.atom.Variable.{Variable}
use Rattle.gib_core.specs.declared.atom.Atom.{Atom}
use Rattle.gib_core.specs.declared.atom.Atom.TheVariants as a
use Rattle.gib_core.specs.declared.atom.Access.{Access}
use Rattle.gib_core.specs.declared.atom.Access.TheVariants.{Offset, Skip, End}
use Rattle.gib_core.specs.Tree.{Term, Then, Write, Point, CallTerm, Give, CaseTerm, IfTerm, Tuple, PartTerms, NoPart, PartThen, Bind, Past, One, Both, Prim, Reach, Side, On, Several, Branches, NoBranch, BranchThen}

-- Other numbers for variables.
abbrev pub Renaming : Type 0
Renaming = ℕ → ℕ

-- A variable by its other number.
abbrev pub rename_variable : Renaming → Variable → Variable
rename_variable r x = record { 0 = r x.0 }

-- An atom: a literal stays.
abbrev pub rename_atom : Renaming → Atom → Atom
rename_atom r (a.Variable x) = a.Variable (rename_variable r x)
rename_atom r (a.Whole z) = a.Whole z
rename_atom r (a.Truth b) = a.Truth b

-- How a field is reached, from the end of a variable by its other number.
abbrev pub rename_access : Renaming → Access → Access
rename_access r Offset = Offset
rename_access r (Skip z) = Skip (rename_variable r z)
rename_access r (End z) = End (rename_variable r z)

abbrev mutual
  -- A term with other numbers for its variables.
  pub rename : Renaming → Term → Term
  rename r (Then b rest) = Then (rename_bind r b) (rename r rest)
  rename r (Write h k ss ps) = Write (rename_variable r h) k (map (rename_atom r) ss) (map (rename_atom r) ps)
  rename r (Point x) = Point (rename_atom r x)
  rename r (CallTerm f xs) = CallTerm f (map (rename_atom r) xs)
  rename r (Give x) = Give (rename_atom r x)
  rename r (CaseTerm x branches) = CaseTerm (rename_atom r x) (rename_branches r branches)
  rename r (IfTerm x t u) = IfTerm (rename_atom r x) (rename r t) (rename r u)
  rename r (Tuple tys ss ps) = Tuple tys (map (rename_atom r) ss) (rename_parts r ps)

  -- A binding with other numbers for its variables.
  pub rename_bind : Renaming → Bind → Bind
  rename_bind r (Past h k) = Past (rename_variable r h) k
  rename_bind r (One s) = One (rename_side r s)
  rename_bind r (Both fork left right) = Both fork (rename_side r left) (rename_side r right)
  rename_bind r (Prim x f y z) = Prim (rename_variable r x) f (rename_atom r y) (rename_atom r z)
  rename_bind r (Reach y by) = Reach (rename_variable r y) (rename_access r by)

  -- A side with other numbers for its variables.
  pub rename_side : Renaming → Side → Side
  rename_side r (On kind x ty t) = On kind (rename_variable r x) ty (rename r t)
  rename_side r (Several xs tys t) = Several (map (rename_variable r) xs) tys (rename r t)

  -- Parts with other numbers for their variables.
  pub rename_parts : Renaming → PartTerms → PartTerms
  rename_parts r NoPart = NoPart
  rename_parts r (PartThen t ps) = PartThen (rename r t) (rename_parts r ps)

  -- Branches with other numbers for their variables.
  pub rename_branches : Renaming → Branches → Branches
  rename_branches r NoBranch = NoBranch
  rename_branches r (BranchThen k xs t rest) = BranchThen k (map (rename_variable r) xs) (rename r t) (rename_branches r rest)

-- An environment with other numbers for its variables.
abbrev pub rename_environment : Renaming → Environment → Environment
rename_environment r [] = []
rename_environment r (b ∷ env) = (r b.0, b.1) ∷ rename_environment r env
