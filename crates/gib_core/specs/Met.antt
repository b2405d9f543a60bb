-- The way through a core: each of its terms in the order of the text, with what it is met with.
use Rattle.std.specs.Prelude.{ℕ, suc, ◌==◌, Bool, true, false, if◌then◌else◌, List, [], ◌∷◌, ◌++◌, map, length, get_or, Option, Some, None}
use Rattle.gib_base.specs.declared.name.Name.{Name}
use Rattle.gib_types.specs.declared.table.Ty.{Ty}
use Rattle.gib_types.specs.declared.table.Ty.TheVariants.{Whole, Truth, Tree}
use Rattle.gib_types.specs.declared.table.ConId.{ConId}
use Rattle.gib_types.specs.Table.{Table, fields_at, tree_types, first_type, further_types}
use Rattle.gib_types.specs.declared.operator.Operator.{Operator}
use Rattle.gib_syntax.specs.Typing.{one_type}
use Rattle.gib_core.specs.declared.atom.Variable.{Variable}
use Rattle.gib_core.specs.declared.atom.Atom.{Atom}
use Rattle.gib_core.specs.declared.atom.Kind.{Kind}
use Rattle.gib_core.specs.declared.atom.Kind.TheVariants.{Here, Region, Scalar}
use Rattle.gib_core.specs.declared.atom.Access.{Access}
use Rattle.gib_core.specs.Tree.{Term, Then, Write, Point, CallTerm, Give, CaseTerm, IfTerm, Tuple, PartTerms, NoPart, PartThen, parts_count, Bind, Past, One, Both, Prim, Reach, Side, On, Several, Branches, NoBranch, BranchThen, variables_of, FunctionTerm, CoreTree}
use Rattle.gib_syntax.specs.Results as results
use Rattle.gib_syntax.specs.Results.{Results}
pub use Rattle.gib_core.specs.declared.scope.Known.{Known}

-- Where a value is put: nowhere, since it is a scalar; at an empty place; behind the fields of an open head that
-- stand; or, where it is several parts of these types, each part at a place of its own.
pub data Destination : Type 0 where
  Nowhere : Destination
  Empty : Destination
  Open : Variable → ConId → List Variable → Destination
  InParts : List Ty → Destination

-- What a term is met with: its destination, the type due there (of parts `Int`, which nobody asks), the variables in scope, the variables of
-- the other sides of the pars around it, whether it begins the right side of a `scalar`, and the calls to which
-- variables were bound before it in its line, the newest first.
pub record Setting : Type 0 where
  pub destination : Destination
  pub due : Ty
  pub scope : List Known
  pub others : List Variable
  pub whole : Bool
  pub calls : List (Name × List Atom)

-- A term as a line of the text.
pub data Line : Type 0 where
  PastLine : Variable → ConId → Line
  SideLine : Kind → Variable → Ty → Line
  ParLine : Line
  PrimLine : Variable → Operator → Atom → Atom → Line
  ReachLine : Variable → Access → Line
  WriteLine : Variable → ConId → List Atom → List Atom → Line
  PointLine : Atom → Line
  CallLine : Name → List Atom → Line
  GiveLine : Atom → Line
  -- the constructors of a case's branches with the variables of their fields
  CaseLine : Atom → List (ConId × List Variable) → Line
  IfLine : Atom → Line
  SeveralLine : List Variable → List Ty → Line
  -- the types of a tuple's parts, its scalar parts, and how many packed ones it has
  TupleLine : List Ty → List Atom → (packed : ℕ) → Line
  PartLine : Line

-- A line with what it is met with.
pub record Met : Type 0 where
  pub line : Line
  pub with : Setting

-- A line that is met so.
abbrev pub at : Setting → Line → Met
at s line = record { line = line; with = s }

-- A variable in scope that is reached.
abbrev pub reached : Variable → Known
reached x = record { variable = x; reached = true; behind = None }

-- A variable in scope.
abbrev pub known : List Known → Variable → Option Known
known [] x = None
known (k ∷ ks) x = if k.variable.0 == x.0 then Some k else known ks x

-- The types of a constructor's packed fields, in declared order.
abbrev pub packed_types : Table → ConId → List Ty
packed_types table k = tree_types (fields_at table k.0)

-- The type of the field that is due at a destination; where none is, `Int`.
abbrev pub field_due : Table → Destination → Ty
field_due table Nowhere = Whole
field_due table Empty = Whole
field_due table (Open h k standing) = get_or (packed_types table k) (length standing) Whole
field_due table (InParts tys) = Whole

-- One more field stands.
abbrev pub with_field : Variable → Destination → Destination
with_field x Nowhere = Nowhere
with_field x Empty = Empty
with_field x (Open h k standing) = Open h k (standing ++ x ∷ [])
with_field x (InParts tys) = InParts tys

-- The destination behind a bound term.
abbrev pub stands_too : Kind → Variable → Destination → Destination
stands_too Here x d = with_field x d
stands_too Region x d = d
stands_too Scalar x d = d

-- What the term of a side is met with.
abbrev pub in_side : Table → Setting → Kind → Ty → Setting
in_side table s Here ty = record s { destination = Empty; due = field_due table s.destination; whole = false; calls = [] }
in_side table s Region ty = record s { destination = Empty; due = ty; whole = false; calls = [] }
in_side table s Scalar ty = record s { destination = Nowhere; due = ty; whole = true; calls = [] }

-- What the term of several variables is met with.
abbrev pub in_several : Setting → List Ty → Setting
in_several s tys = record s { destination = InParts tys; due = Whole; whole = false; calls = [] }

-- What the term of a part is met with.
abbrev pub in_part : Setting → Ty → Setting
in_part s ty = record s { destination = Empty; due = ty; whole = false; calls = [] }

-- Variables come into scope.
abbrev pub with_variables : List Variable → List Known → List Known
with_variables [] ks = ks
with_variables (x ∷ xs) ks = with_variables xs (reached x ∷ ks)

-- The destination behind a side.
abbrev pub stands_behind : Side → Destination → Destination
stands_behind (On kind x ty t) d = stands_too kind x d
stands_behind (Several xs tys t) d = d

-- What stands behind a side.
abbrev pub behind_side : Setting → Side → Setting
behind_side s side = record s { destination = stands_behind side s.destination; scope = with_variables (variables_of side) s.scope; whole = false }

-- A field is reached from here on.
abbrev pub reached_too : Option Known → List Known → List Known
reached_too None ks = ks
reached_too (Some k) ks = record k { reached = true } ∷ ks

-- A term that is a call stands before too.
abbrev pub call_too : Term → List (Name × List Atom) → List (Name × List Atom)
call_too (Then b t) cs = cs
call_too (Write h k ss ps) cs = cs
call_too (Point x) cs = cs
call_too (CallTerm f xs) cs = (f, xs) ∷ cs
call_too (Give x) cs = cs
call_too (CaseTerm x branches) cs = cs
call_too (IfTerm x t u) cs = cs
call_too (Tuple tys ss ps) cs = cs

-- The calls before, behind a side.
abbrev pub calls_behind : Side → List (Name × List Atom) → List (Name × List Atom)
calls_behind (On kind x ty t) cs = call_too t cs
calls_behind (Several xs tys t) cs = cs

-- What stands behind a binding. A head is no value, so it does not come into scope.
abbrev pub behind : Setting → Bind → Setting
behind s (Past h k) = record s { destination = Open h k []; whole = false }
behind s (One side) = record (behind_side s side) { calls = calls_behind side s.calls }
behind s (Both fork l r) = behind_side (behind_side s l) r
behind s (Prim x f y z) = record s { scope = reached x ∷ s.scope; whole = false }
behind s (Reach y by) = record s { scope = reached_too (known s.scope y) s.scope; whole = false }

-- What the left side of a par is met with: the right one's variables are another side's.
abbrev pub left_of : Setting → Side → Setting
left_of s r = record s { others = variables_of r ++ s.others }

-- What the right side of a par is met with: the left one's variables are another side's.
abbrev pub right_of : Setting → Side → Setting
right_of s l = record s { destination = stands_behind l s.destination; others = variables_of l ++ s.others }

-- A packed field of an arm: the first one is reached at once.
abbrev pub packed_field : ConId → Variable → Option Variable → Known
packed_field k x None = reached x
packed_field k x (Some z) = record { variable = x; reached = false; behind = Some (record { constructor = k; before = z }) }

-- A field of an arm, with the packed field before it.
abbrev pub field : ConId → Variable → Ty → Option Variable → Known
field k x Whole before = reached x
field k x Truth before = reached x
field k x (Tree t) before = packed_field k x before

-- The packed field before the next one.
abbrev pub packed_before : Variable → Ty → Option Variable → Option Variable
packed_before x Whole before = before
packed_before x Truth before = before
packed_before x (Tree t) before = Some x

-- The variables of an arm come into scope.
abbrev pub with_arm : ConId → List Variable → List Ty → Option Variable → List Known → List Known
with_arm k [] types before ks = ks
with_arm k (x ∷ xs) types before ks =
    with_arm k xs (further_types types) (packed_before x (first_type types) before) (field k x (first_type types) before ∷ ks)

-- What the term of an arm is met with.
abbrev pub in_arm : Table → Setting → ConId → List Variable → Setting
in_arm table s k xs = record s { scope = with_arm k xs (fields_at table k.0) None s.scope; whole = false; calls = [] }

-- What a branch of an `if` is met with.
abbrev pub in_branch : Setting → Setting
in_branch s = record s { whole = false; calls = [] }

-- The constructors of branches with the variables of their fields.
abbrev pub arms_of : Branches → List (ConId × List Variable)
arms_of NoBranch = []
arms_of (BranchThen k xs t rest) = (k, xs) ∷ arms_of rest

abbrev mutual
  -- Each line of a term, in the order of the text, with what it is met with.
  pub met : Table → Setting → Term → List Met
  met table s (Then b rest) = met_bind table s b ++ met table (behind s b) rest
  met table s (Write h k ss ps) = at s (WriteLine h k ss ps) ∷ []
  met table s (Point x) = at s (PointLine x) ∷ []
  met table s (CallTerm f xs) = at s (CallLine f xs) ∷ []
  met table s (Give x) = at s (GiveLine x) ∷ []
  met table s (CaseTerm x branches) = at s (CaseLine x (arms_of branches)) ∷ met_branches table s branches
  met table s (IfTerm x t u) = at s (IfLine x) ∷ (met table (in_branch s) t ++ met table (in_branch s) u)
  met table s (Tuple tys ss ps) = at s (TupleLine tys ss (parts_count ps)) ∷ met_parts table s (tree_types tys) ps

  -- Each line of a binding.
  pub met_bind : Table → Setting → Bind → List Met
  met_bind table s (Past h k) = at s (PastLine h k) ∷ []
  met_bind table s (One side) = met_side table s side
  met_bind table s (Both fork l r) = at s ParLine ∷ (met_side table (left_of s r) l ++ met_side table (right_of s l) r)
  met_bind table s (Prim x f y z) = at s (PrimLine x f y z) ∷ []
  met_bind table s (Reach y by) = at s (ReachLine y by) ∷ []

  -- A side's own line, and each of its term.
  pub met_side : Table → Setting → Side → List Met
  met_side table s (On kind x ty t) = at s (SideLine kind x ty) ∷ met table (in_side table s kind ty) t
  met_side table s (Several xs tys t) = at s (SeveralLine xs tys) ∷ met table (in_several s tys) t

  -- The line of each part, of these types, and each of its term. What is bound in a part is in scope there alone.
  pub met_parts : Table → Setting → List Ty → PartTerms → List Met
  met_parts table s tys NoPart = []
  met_parts table s tys (PartThen t ps) = at s PartLine ∷ (met table (in_part s (first_type tys)) t ++ met_parts table s (further_types tys) ps)

  -- Each line of the terms of branches.
  pub met_branches : Table → Setting → Branches → List Met
  met_branches table s NoBranch = []
  met_branches table s (BranchThen k xs t rest) = met table (in_arm table s k xs) t ++ met_branches table s rest

-- The body of a function or of main, with the types of its parameters and of its result.
pub record Body : Type 0 where
  pub parameters : List Ty
  pub result : Results Ty
  pub term : Term

-- The bodies of a core, main's last.
abbrev pub bodies : CoreTree → List Body
bodies core =
    map (λ (f : FunctionTerm). record { parameters = f.parameters; result = f.result; term = f.body }) core.functions
    ++ record { parameters = core.main.parameter ∷ []; result = results.One core.main.result; term = core.main.body } ∷ []

-- As many parameters as there are types, the variables from a number on, come into scope.
abbrev pub with_parameters : ℕ → List Ty → List Known → List Known
with_parameters n [] ks = ks
with_parameters n (t ∷ ts) ks = with_parameters (suc n) ts (reached (record { 0 = n }) ∷ ks)

-- Where the result of a body is put.
abbrev pub result_place : Results Ty → Destination
result_place (results.One Whole) = Nowhere
result_place (results.One Truth) = Nowhere
result_place (results.One (Tree t)) = Empty
result_place (results.Several tys) = InParts tys

-- What a body is met with.
abbrev pub opening : Body → Setting
opening b = record { destination = result_place b.result; due = one_type b.result; scope = with_parameters 0 b.parameters []; others = []; whole = false; calls = [] }

-- Each line of a body.
abbrev pub met_body : Table → Body → List Met
met_body table b = met table (opening b) b.term
