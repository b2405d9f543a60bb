-- The walk on the terms of cores: what their lines say, joined in the order of the text; and terms changed place by place.
use Rattle.std.specs.Prelude.{Bool, false, ◌||◌, List, [], ◌∷◌, map}
use Rattle.gib_types.specs.declared.table.ConId.{ConId}
use Rattle.gib_core.specs.declared.atom.Variable.{Variable}
use Rattle.gib_core.specs.Tree.{Term, Then, Write, Point, CallTerm, Give, CaseTerm, IfTerm, Tuple, PartTerms, NoPart, PartThen, parts_count, Bind, Past, One, Both, Prim, Reach, Side, On, Several, Branches, NoBranch, BranchThen, FunctionTerm, MainTerm, CoreTree}
use Rattle.gib_syntax.specs.Results as results
use Rattle.gib_core.specs.Met.{Line, PastLine, SideLine, ParLine, PrimLine, ReachLine, WriteLine, PointLine, CallLine, GiveLine, CaseLine, IfLine, SeveralLine, TupleLine, PartLine, arms_of, Body}

-- What a text has of a term, one after another: the lines that are met, and the heads of arms.
pub data Entry : Type 0 where
  AtLine : Line → Entry
  AtArm : ConId → List Variable → Entry

abbrev mutual
  -- What the entries of a term say, joined in the order of the text. With no branch and no part it is the unit.
  pub walk {ℓ} : {A : Type ℓ} → (A → A → A) → A → (Entry → A) → Term → A
  walk op e g (Then b rest) = op (walk_bind op e g b) (walk op e g rest)
  walk op e g (Write h k ss ps) = g (AtLine (WriteLine h k ss ps))
  walk op e g (Point x) = g (AtLine (PointLine x))
  walk op e g (CallTerm f xs) = g (AtLine (CallLine f xs))
  walk op e g (Give x) = g (AtLine (GiveLine x))
  walk op e g (CaseTerm x bs) = op (g (AtLine (CaseLine x (arms_of bs)))) (walk_branches op e g bs)
  walk op e g (IfTerm x t u) = op (g (AtLine (IfLine x))) (op (walk op e g t) (walk op e g u))
  walk op e g (Tuple tys ss ps) = op (g (AtLine (TupleLine tys ss (parts_count ps)))) (walk_parts op e g ps)

  -- What those of a binding say.
  pub walk_bind {ℓ} : {A : Type ℓ} → (A → A → A) → A → (Entry → A) → Bind → A
  walk_bind op e g (Past h k) = g (AtLine (PastLine h k))
  walk_bind op e g (One s) = walk_side op e g s
  walk_bind op e g (Both fork l r) = op (g (AtLine ParLine)) (op (walk_side op e g l) (walk_side op e g r))
  walk_bind op e g (Prim x f y z) = g (AtLine (PrimLine x f y z))
  walk_bind op e g (Reach y by) = g (AtLine (ReachLine y by))

  -- What a side's own says, and those of its term.
  pub walk_side {ℓ} : {A : Type ℓ} → (A → A → A) → A → (Entry → A) → Side → A
  walk_side op e g (On kind x ty t) = op (g (AtLine (SideLine kind x ty))) (walk op e g t)
  walk_side op e g (Several xs tys t) = op (g (AtLine (SeveralLine xs tys))) (walk op e g t)

  -- What those of parts say.
  pub walk_parts {ℓ} : {A : Type ℓ} → (A → A → A) → A → (Entry → A) → PartTerms → A
  walk_parts op e g NoPart = e
  walk_parts op e g (PartThen t ps) = op (g (AtLine PartLine)) (op (walk op e g t) (walk_parts op e g ps))

  -- What those of branches say.
  pub walk_branches {ℓ} : {A : Type ℓ} → (A → A → A) → A → (Entry → A) → Branches → A
  walk_branches op e g NoBranch = e
  walk_branches op e g (BranchThen k xs t rest) = op (g (AtArm k xs)) (op (walk op e g t) (walk_branches op e g rest))

-- The statement holds of each entry of a term; of a binding, of a side, of parts, of branches.
abbrev pub Each : (Entry → Type 0) → Term → Type 0
Each P t = walk (λ (A B : Type 0). A × B) (Unit {0}) P t

-- It holds of each entry of a binding.
abbrev pub EachInBind : (Entry → Type 0) → Bind → Type 0
EachInBind P b = walk_bind (λ (A B : Type 0). A × B) (Unit {0}) P b

-- It holds of each entry of a side.
abbrev pub EachInSide : (Entry → Type 0) → Side → Type 0
EachInSide P s = walk_side (λ (A B : Type 0). A × B) (Unit {0}) P s

-- It holds of each entry of parts.
abbrev pub EachInParts : (Entry → Type 0) → PartTerms → Type 0
EachInParts P ps = walk_parts (λ (A B : Type 0). A × B) (Unit {0}) P ps

-- It holds of each entry of branches.
abbrev pub EachInBranches : (Entry → Type 0) → Branches → Type 0
EachInBranches P bs = walk_branches (λ (A B : Type 0). A × B) (Unit {0}) P bs

-- The test holds of an entry of a term.
abbrev pub some : (Entry → Bool) → Term → Bool
some p t = walk (◌||◌) false p t

-- Where a term stands that is nested in another one.
pub data Nested : Type 0 where
  InSide : Nested
  InArm : ConId → List Variable → Nested
  InIf : Nested
  InPart : Nested

abbrev mutual
  -- A term, from the inside to the outside: each binding changed, and each term that is nested in it.
  pub map_term : (Bind → Bind) → (Nested → Term → Term) → Term → Term
  map_term f g (Then b rest) = Then (f (map_bind f g b)) (map_term f g rest)
  map_term f g (Write h k ss ps) = Write h k ss ps
  map_term f g (Point x) = Point x
  map_term f g (CallTerm n xs) = CallTerm n xs
  map_term f g (Give x) = Give x
  map_term f g (CaseTerm x bs) = CaseTerm x (map_branches f g bs)
  map_term f g (IfTerm x t u) = IfTerm x (g InIf (map_term f g t)) (g InIf (map_term f g u))
  map_term f g (Tuple tys ss ps) = Tuple tys ss (map_parts f g ps)

  -- A binding, with its sides changed.
  pub map_bind : (Bind → Bind) → (Nested → Term → Term) → Bind → Bind
  map_bind f g (Past h k) = Past h k
  map_bind f g (One s) = One (map_side f g s)
  map_bind f g (Both fork l r) = Both fork (map_side f g l) (map_side f g r)
  map_bind f g (Prim x o y z) = Prim x o y z
  map_bind f g (Reach y by) = Reach y by

  -- A side, with its term changed.
  pub map_side : (Bind → Bind) → (Nested → Term → Term) → Side → Side
  map_side f g (On kind x ty t) = On kind x ty (g InSide (map_term f g t))
  map_side f g (Several xs tys t) = Several xs tys (g InSide (map_term f g t))

  -- Parts, with their terms changed.
  pub map_parts : (Bind → Bind) → (Nested → Term → Term) → PartTerms → PartTerms
  map_parts f g NoPart = NoPart
  map_parts f g (PartThen t ps) = PartThen (g InPart (map_term f g t)) (map_parts f g ps)

  -- Branches, with their terms changed.
  pub map_branches : (Bind → Bind) → (Nested → Term → Term) → Branches → Branches
  map_branches f g NoBranch = NoBranch
  map_branches f g (BranchThen k xs t rest) = BranchThen k xs (g (InArm k xs) (map_term f g t)) (map_branches f g rest)

-- A nested term as it is.
abbrev pub as_it_is : Nested → Term → Term
as_it_is s t = t

-- The body of a function.
abbrev pub body_of : FunctionTerm → Body
body_of f = record { parameters = f.parameters; result = f.result; term = f.body }

-- A function with its body made anew.
abbrev pub with_body : (Body → Term) → FunctionTerm → FunctionTerm
with_body h f = record f { body = h (body_of f) }

-- The body of main, whose parameter is its only one.
abbrev pub body_of_main : MainTerm → Body
body_of_main m = record { parameters = m.parameter ∷ []; result = results.One m.result; term = m.body }

-- Main with its body made anew.
abbrev pub with_main : (Body → Term) → MainTerm → MainTerm
with_main h m = record { parameter = m.parameter; result = m.result; body = h (body_of_main m) }

-- A core with its bodies made anew, with these constructors with offsets, and with ends told or not.
abbrev pub remade : (Body → Term) → List ConId → Bool → CoreTree → CoreTree
remade h offsets marked core = record {
  table = core.table;
  functions = map (with_body h) core.functions;
  main = with_main h core.main;
  offsets = offsets;
  marked = marked;
}

-- A core with its bodies made anew. All else stays.
abbrev pub with_bodies : (Body → Term) → CoreTree → CoreTree
with_bodies h core = remade h core.offsets core.marked core
