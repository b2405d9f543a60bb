-- The build rules of a core. Each is judged at one term, from what stands before it.
use Rattle.std.specs.Prelude.{◌≡◌, ℕ, suc, ◌+◌, ◌==◌, Bool, true, false, not, ◌&&◌, ◌||◌, nat_lt, if◌then◌else◌, List, [], ◌∷◌, ◌++◌, length, Option, Some, None}
use Rattle.std.specs.List.{AllByRecursion}
use Rattle.gib_types.specs.declared.table.Ty.{Ty}
use Rattle.gib_types.specs.declared.table.Ty.TheVariants.{Whole, Truth, Tree}
use Rattle.gib_types.specs.declared.table.ConId.{ConId}
use Rattle.gib_types.specs.Table.{Table, fields_at, con_at, scalar_types, tree_types, is_scalar, first_type, further_types, constructors_of}
pub use Rattle.gib_types.specs.Table.{same_type, type_made}
use Rattle.gib_syntax.specs.Results as results
use Rattle.gib_syntax.specs.Results.{Results}
use Rattle.gib_types.specs.Operators.{operator_type}
use Rattle.gib_core.specs.declared.atom.Variable.{Variable}
use Rattle.gib_core.specs.declared.atom.Atom.{Atom}
use Rattle.gib_core.specs.declared.atom.Atom.TheVariants as a
use Rattle.gib_core.specs.declared.atom.Kind.{Kind}
use Rattle.gib_core.specs.declared.atom.Kind.TheVariants.{Here, Region, Scalar}
use Rattle.gib_core.specs.declared.atom.Access.{Access}
use Rattle.gib_core.specs.declared.atom.Access.TheVariants.{Offset, Skip, End}
use Rattle.gib_core.specs.declared.rule.Rule.{Rule}
use Rattle.gib_core.specs.declared.rule.Rule.TheVariants as r
use Rattle.gib_core.specs.declared.scope.Behind.{Behind}
use Rattle.gib_base.specs.declared.name.Name.{Name}
use Rattle.gib_core.specs.Tree.{FunctionTerm, CoreTree}
use Rattle.gib_core.specs.Meaning.{function_at}
use Rattle.gib_core.specs.Ending.{Ended, ended, call_ends}
use Rattle.gib_core.specs.Met.{Known, Destination, Nowhere, Empty, Open, InParts, Setting, Line, PastLine, SideLine, ParLine, PrimLine, ReachLine, WriteLine, PointLine, CallLine, GiveLine, CaseLine, IfLine, SeveralLine, TupleLine, PartLine, Met, known, packed_types, field_due, Body, bodies, met_body}
pub use Rattle.gib_core.specs.declared.scope.Bound.{Bound}

-- What stands before a term in its function: the variables that were bound, with their types, and those
-- that a `case` was on, both the newest first.
pub record Before : Type 0 where
  pub bound : List Bound
  pub cased : List Variable

-- The value is put nowhere: a scalar is due.
abbrev pub is_nowhere : Destination → Bool
is_nowhere Nowhere = true
is_nowhere Empty = false
is_nowhere (Open h k standing) = false
is_nowhere (InParts tys) = false

-- The value is put at an empty place.
abbrev pub is_empty : Destination → Bool
is_empty Nowhere = false
is_empty Empty = true
is_empty (Open h k standing) = false
is_empty (InParts tys) = false

-- The value is put as several parts.
abbrev pub is_in_parts : Destination → Bool
is_in_parts Nowhere = false
is_in_parts Empty = false
is_in_parts (Open h k standing) = false
is_in_parts (InParts tys) = true

-- Fewer fields of the open head stand than it has.
abbrev pub has_room : Table → Destination → Bool
has_room table Nowhere = false
has_room table Empty = false
has_room table (Open h k standing) = nat_lt (length standing) (length (packed_types table k))
has_room table (InParts tys) = false

-- A variable is one of these.
abbrev pub is_among : List Variable → Variable → Bool
is_among [] x = false
is_among (y ∷ ys) x = y.0 == x.0 || is_among ys x

-- A constructor is one of these.
abbrev pub is_one_of : List ConId → ConId → Bool
is_one_of [] k = false
is_one_of (j ∷ js) k = j.0 == k.0 || is_one_of js k

-- A variable was bound.
abbrev pub is_bound : List Bound → Variable → Bool
is_bound [] x = false
is_bound (b ∷ bs) x = b.variable.0 == x.0 || is_bound bs x

-- The type that a variable was bound with.
abbrev pub type_bound : List Bound → Variable → Option Ty
type_bound [] x = None
type_bound (b ∷ bs) x = if b.variable.0 == x.0 then Some b.ty else type_bound bs x

-- The type of an atom.
abbrev pub type_of : Before → Atom → Option Ty
type_of b (a.Variable x) = type_bound b.bound x
type_of b (a.Whole z) = Some Whole
type_of b (a.Truth t) = Some Truth

-- A type is there, and it is this one.
abbrev pub is_type : Option Ty → Ty → Bool
is_type None ty = false
is_type (Some t) ty = same_type t ty

-- The atom has the type.
abbrev pub has_type : Before → Atom → Ty → Bool
has_type b x ty = is_type (type_of b x) ty

-- Atoms have these types, as many as there are.
abbrev pub have_types : Before → List Atom → List Ty → Bool
have_types b [] [] = true
have_types b [] (t ∷ ts) = false
have_types b (x ∷ xs) [] = false
have_types b (x ∷ xs) (t ∷ ts) = has_type b x t && have_types b xs ts

-- Types are these, as many as there are.
abbrev pub same_types : List Ty → List Ty → Bool
same_types [] [] = true
same_types [] (u ∷ us) = false
same_types (t ∷ ts) [] = false
same_types (t ∷ ts) (u ∷ us) = same_type t u && same_types ts us

-- These are the types of the parts that are due.
abbrev pub are_due : Destination → List Ty → Bool
are_due Nowhere tys = false
are_due Empty tys = false
are_due (Open h k standing) tys = false
are_due (InParts due) tys = same_types tys due

-- A type is declared, or a scalar.
abbrev pub is_declared : Table → Ty → Bool
is_declared table Whole = true
is_declared table Truth = true
is_declared table (Tree t) = nat_lt t.0 (length table.types)

-- Each of the types is.
abbrev pub are_declared : Table → List Ty → Bool
are_declared table [] = true
are_declared table (t ∷ ts) = is_declared table t && are_declared table ts

-- Where parts are due, these are their types, which are declared, the scalars are the scalar ones, and there are so many packed ones.
abbrev pub are_parts : Table → Before → Destination → List Ty → List Atom → ℕ → Bool
are_parts table b Nowhere tys ss packed = true
are_parts table b Empty tys ss packed = true
are_parts table b (Open h k standing) tys ss packed = true
are_parts table b (InParts due) tys ss packed =
    same_types tys due && (are_declared table tys && (have_types b ss (scalar_types tys) && packed == length (tree_types tys)))

-- There are from two to eight variables, each with a type.
abbrev pub are_several : List Variable → List Ty → Bool
are_several xs tys = (nat_lt 1 (length xs) && nat_lt (length xs) 9) && length xs == length tys

-- A variable in scope is there, and reached.
abbrev pub is_reached : Option Known → Bool
is_reached None = false
is_reached (Some k) = k.reached

-- An atom can be used: it is a literal, or a variable in scope that is reached.
abbrev pub is_usable : Setting → Atom → Bool
is_usable s (a.Variable x) = is_reached (known s.scope x)
is_usable s (a.Whole z) = true
is_usable s (a.Truth t) = true

-- All atoms can be used.
abbrev pub all_usable : Setting → List Atom → Bool
all_usable s [] = true
all_usable s (x ∷ xs) = is_usable s x && all_usable s xs

-- An atom is the variable of another side.
abbrev pub is_other : Setting → Atom → Bool
is_other s (a.Variable x) = is_among s.others x
is_other s (a.Whole z) = false
is_other s (a.Truth t) = false

-- One of the atoms is the variable of another side.
abbrev pub any_other : Setting → List Atom → Bool
any_other s [] = false
any_other s (x ∷ xs) = is_other s x || any_other s xs

-- A constructor was found.
abbrev pub is_there : Option ℕ → Bool
is_there None = false
is_there (Some k) = true

-- The constructor is one of the type.
abbrev pub is_of_type : Table → ConId → Ty → Bool
is_of_type table k Whole = false
is_of_type table k Truth = false
is_of_type table k (Tree t) = is_there (con_at table t.0 k.0)

-- Atoms are these variables, as many as there are.
abbrev pub are_variables : List Variable → List Atom → Bool
are_variables [] [] = true
are_variables [] (y ∷ ys) = false
are_variables (x ∷ xs) [] = false
are_variables (x ∷ xs) (a.Variable y ∷ ys) = x.0 == y.0 && are_variables xs ys
are_variables (x ∷ xs) (a.Whole z ∷ ys) = false
are_variables (x ∷ xs) (a.Truth t ∷ ys) = false

-- One of the variables was cased.
abbrev pub any_cased : List Variable → List Variable → Bool
any_cased cased [] = false
any_cased cased (x ∷ xs) = is_among cased x || any_cased cased xs

-- The variables behind the first one.
abbrev pub further : List Variable → List Variable
further [] = []
further (x ∷ xs) = xs

-- The head of the constructor is open, all its packed fields stand, these atoms name them in their order, and no
-- `case` on one of them past the first stands before.
abbrev pub may_write : Table → Before → Destination → Variable → ConId → List Atom → Bool
may_write table b Nowhere h k ps = false
may_write table b Empty h k ps = false
may_write table b (Open head con standing) h k ps =
    (head.0 == h.0 && con.0 == k.0)
    && ((length standing == length (packed_types table con) && are_variables standing ps) && not (any_cased b.cased (further standing)))
may_write table b (InParts tys) h k ps = false

-- The scalars are those of the open head.
abbrev pub are_scalars : Table → Before → Destination → List Atom → Bool
are_scalars table b Nowhere ss = true
are_scalars table b Empty ss = true
are_scalars table b (Open head con standing) ss = have_types b ss (scalar_types (fields_at table con.0))
are_scalars table b (InParts tys) ss = true

-- One of the calls tells the end of a variable, where these parameters are ended.
abbrev pub one_tells : List Ended → List (Name × List Atom) → Variable → Bool
one_tells es [] z = false
one_tells es (c ∷ cs) z = call_ends es c.0.0 0 c.1 z || one_tells es cs z

-- No par stands around a term.
abbrev pub is_outside : List Variable → Bool
is_outside [] = true
is_outside (x ∷ xs) = false

-- A field can be reached so, where it stands behind this.
abbrev pub by_access : CoreTree → Before → Setting → Option Behind → Access → Bool
by_access core b s None by = false
by_access core b s (Some f) Offset = is_one_of core.offsets f.constructor
by_access core b s (Some f) (Skip z) = f.before.0 == z.0 && (is_reached (known s.scope z) && not (is_among b.cased z))
by_access core b s (Some f) (End z) = f.before.0 == z.0 && (is_reached (known s.scope z) && (is_outside s.others && one_tells (ended core) s.calls z))

-- A field that is in scope and not reached can be reached so.
abbrev pub may_reach : CoreTree → Before → Setting → Option Known → Access → Bool
may_reach core b s None by = false
may_reach core b s (Some k) by = not k.reached && by_access core b s k.behind by

-- The result is one packed value.
abbrev pub is_packed : Results Ty → Bool
is_packed (results.One ty) = not (is_scalar ty)
is_packed (results.Several tys) = false

-- The result of a function is packed.
abbrev pub gives_packed : Option FunctionTerm → Bool
gives_packed None = false
gives_packed (Some f) = is_packed f.result

-- The result has the type due, and a scalar is that of the whole right side of a `scalar`; or it has the parts due.
abbrev pub result_fits : Destination → Ty → (whole : Bool) → Results Ty → Bool
result_fits d due whole (results.One ty) = same_type ty due && (not (is_scalar ty) || whole)
result_fits d due whole (results.Several tys) = are_due d tys

-- A call fits its function: arguments and result have the types due.
abbrev pub call_fits : Before → Setting → List Atom → Option FunctionTerm → Bool
call_fits b s xs None = false
call_fits b s xs (Some f) = have_types b xs f.parameters && result_fits s.destination s.due s.whole f.result

-- Arms are those of these constructors, in their order, each with a variable for each field.
abbrev pub are_arms : Table → List ℕ → List (ConId × List Variable) → Bool
are_arms table [] [] = true
are_arms table [] (arm ∷ arms) = false
are_arms table (k ∷ ks) [] = false
are_arms table (k ∷ ks) (arm ∷ arms) = (k == arm.0.0 && length (fields_at table k) == length arm.1) && are_arms table ks arms

-- Arms are those of a packed type. A variable that nothing before bound has no type, so it is not packed.
abbrev pub cover : Table → Option Ty → List (ConId × List Variable) → Bool
cover table None arms = false
cover table (Some Whole) arms = false
cover table (Some Truth) arms = false
cover table (Some (Tree t)) arms = are_arms table (constructors_of table t.0) arms

-- Variables of these types: the fields of an arm, or those of parts.
abbrev pub bind_fields : List Variable → List Ty → List Bound → List Bound
bind_fields [] types bound = bound
bind_fields (x ∷ xs) types bound = bind_fields xs (further_types types) (record { variable = x; ty = first_type types } ∷ bound)

-- The fields of all arms.
abbrev pub bind_arms : Table → List (ConId × List Variable) → List Bound → List Bound
bind_arms table [] bound = bound
bind_arms table (arm ∷ arms) bound = bind_arms table arms (bind_fields arm.1 (fields_at table arm.0.0) bound)

-- One of the variables was bound before, or is there twice.
abbrev pub any_bound : List Variable → List Variable → List Bound → Bool
any_bound [] seen bound = false
any_bound (x ∷ xs) seen bound = (is_bound bound x || is_among seen x) || any_bound xs (x ∷ seen) bound

-- The variables of all arms.
abbrev pub arm_variables : List (ConId × List Variable) → List Variable
arm_variables [] = []
arm_variables (arm ∷ arms) = arm.1 ++ arm_variables arms

-- A rule by its number, with whether it is broken.
abbrev pub Judgement : Type 0
Judgement = ℕ × Bool

-- The number of a rule; what each rule says stands at its name, in `src/rule.rt`.
abbrev pub rule_number : Rule → ℕ
rule_number r.Head = 1
rule_number r.Room = 2
rule_number r.Region = 3
rule_number r.Sides = 4
rule_number r.Write = 5
rule_number r.Place = 6
rule_number r.Case = 7
rule_number r.Scope = 8
rule_number r.Types = 9
rule_number r.Tuple = 10
rule_number r.Several = 11

-- A rule, with whether it is broken.
abbrev pub judged : Rule → Bool → Judgement
judged rule broken = (rule_number rule, broken)

-- The rules for a variable that is bound to a term: room for a field, a packed type, a new variable, the type due.
abbrev pub side_rules : Table → Before → Setting → Kind → Variable → Ty → List Judgement
side_rules table b s Here x ty = judged r.Room (not (has_room table s.destination)) ∷ judged r.Scope (is_bound b.bound x) ∷ judged r.Types (not (same_type ty (field_due table s.destination))) ∷ []
side_rules table b s Region x ty = judged r.Region (is_scalar ty) ∷ judged r.Scope (is_bound b.bound x) ∷ []
side_rules table b s Scalar x ty = judged r.Scope (is_bound b.bound x) ∷ judged r.Types (not (is_scalar ty)) ∷ []

-- The rules that a line can break, in their order.
abbrev pub rules : CoreTree → Before → Setting → Line → List Judgement
rules core b s (PastLine h k) =
    judged r.Head (not (is_empty s.destination && is_of_type core.table k s.due)) ∷ judged r.Scope (is_bound b.bound h) ∷ []
rules core b s (SideLine kind x ty) = side_rules core.table b s kind x ty
rules core b s ParLine = []
rules core b s (PrimLine x f y z) =
    judged r.Sides (any_other s (y ∷ z ∷ []))
    ∷ judged r.Scope (is_bound b.bound x || not (all_usable s (y ∷ z ∷ [])))
    ∷ judged r.Types (not (have_types b (y ∷ z ∷ []) (Whole ∷ Whole ∷ []))) ∷ []
rules core b s (ReachLine y by) = judged r.Sides (is_among s.others y) ∷ judged r.Scope (not (may_reach core b s (known s.scope y) by)) ∷ []
rules core b s (WriteLine h k ss ps) =
    judged r.Sides (any_other s (ss ++ ps))
    ∷ judged r.Write (not (may_write core.table b s.destination h k ps))
    ∷ judged r.Scope (not (all_usable s (ss ++ ps)))
    ∷ judged r.Types (not (are_scalars core.table b s.destination ss)) ∷ []
rules core b s (PointLine x) =
    judged r.Sides (is_other s x) ∷ judged r.Place (not (is_empty s.destination)) ∷ judged r.Scope (not (is_usable s x)) ∷ judged r.Types (not (has_type b x s.due)) ∷ []
rules core b s (CallLine f xs) =
    judged r.Sides (any_other s xs)
    ∷ judged r.Place (gives_packed (function_at core.functions f.0) && not (is_empty s.destination))
    ∷ judged r.Scope (not (all_usable s xs))
    ∷ judged r.Types (not (call_fits b s xs (function_at core.functions f.0))) ∷ []
rules core b s (GiveLine x) =
    judged r.Sides (is_other s x) ∷ judged r.Scope (not (is_usable s x)) ∷ judged r.Types (not (is_nowhere s.destination && has_type b x s.due)) ∷ []
rules core b s (CaseLine x arms) =
    judged r.Sides (is_other s x)
    ∷ judged r.Case (not (cover core.table (type_of b x) arms))
    ∷ judged r.Scope (not (is_usable s x) || any_bound (arm_variables arms) [] b.bound) ∷ []
rules core b s (IfLine x) = judged r.Sides (is_other s x) ∷ judged r.Scope (not (is_usable s x)) ∷ judged r.Types (not (has_type b x Truth)) ∷ []
rules core b s (SeveralLine xs tys) = judged r.Scope (any_bound xs [] b.bound) ∷ judged r.Several (not (are_several xs tys)) ∷ []
rules core b s (TupleLine tys ss packed) =
    judged r.Sides (any_other s ss)
    ∷ judged r.Scope (not (all_usable s ss))
    ∷ judged r.Types (not (are_parts core.table b s.destination tys ss packed))
    ∷ judged r.Tuple (not (is_in_parts s.destination)) ∷ []
rules core b s PartLine = []

-- The first of the rules that is broken.
abbrev pub least : List Judgement → Option ℕ
least [] = None
least (j ∷ js) = if j.1 then Some j.0 else least js

-- One more variable.
abbrev pub bound_too : Variable → Ty → List Bound → List Bound
bound_too x ty bound = record { variable = x; ty = ty } ∷ bound

-- The variables that were bound, behind a line.
abbrev pub binds_new : Table → Line → List Bound → List Bound
binds_new table (PastLine h k) bound = bound_too h (type_made table k) bound
binds_new table (SideLine kind x ty) bound = bound_too x ty bound
binds_new table ParLine bound = bound
binds_new table (PrimLine x f y z) bound = bound_too x (operator_type f) bound
binds_new table (ReachLine y by) bound = bound
binds_new table (WriteLine h k ss ps) bound = bound
binds_new table (PointLine x) bound = bound
binds_new table (CallLine f xs) bound = bound
binds_new table (GiveLine x) bound = bound
binds_new table (CaseLine x arms) bound = bind_arms table arms bound
binds_new table (IfLine x) bound = bound
binds_new table (SeveralLine xs tys) bound = bind_fields xs tys bound
binds_new table (TupleLine tys ss packed) bound = bound
binds_new table PartLine bound = bound

-- The variables that a `case` was on, behind a line.
abbrev pub cases_on : Line → List Variable → List Variable
cases_on (CaseLine (a.Variable x) arms) cased = x ∷ cased
cases_on (CaseLine (a.Whole z) arms) cased = cased
cases_on (CaseLine (a.Truth t) arms) cased = cased
cases_on (PastLine h k) cased = cased
cases_on (SideLine kind x ty) cased = cased
cases_on ParLine cased = cased
cases_on (PrimLine x f y z) cased = cased
cases_on (ReachLine y by) cased = cased
cases_on (WriteLine h k ss ps) cased = cased
cases_on (PointLine x) cased = cased
cases_on (CallLine f xs) cased = cased
cases_on (GiveLine x) cased = cased
cases_on (IfLine x) cased = cased
cases_on (SeveralLine xs tys) cased = cased
cases_on (TupleLine tys ss packed) cased = cased
cases_on PartLine cased = cased

-- What stands behind a line.
abbrev pub next : Table → Before → Line → Before
next table b line = record { bound = binds_new table line b.bound; cased = cases_on line b.cased }

-- What stands behind lines.
abbrev pub next_all : Table → Before → List Met → Before
next_all table b [] = b
next_all table b (m ∷ ms) = next_all table (next table b m.line) ms

-- A broken rule, with the number of its term.
abbrev pub Broken : Type 0
Broken = Option (ℕ × ℕ)

-- The rule at this term where there is one, else what comes later.
abbrev pub or_later : Option ℕ → ℕ → Broken → Broken
or_later None place later = later
or_later (Some rule) place later = Some (rule, place)

-- What was found first, else what comes later.
abbrev pub or_else : Broken → Broken → Broken
or_else None later = later
or_else (Some found) later = Some found

-- The first broken rule of lines whose first one has this number: that of the smallest term, there the smallest rule.
abbrev pub broken_from : CoreTree → ℕ → Before → List Met → Broken
broken_from core place b [] = None
broken_from core place b (m ∷ ms) = or_later (least (rules core b m.with m.line)) place (broken_from core (place + 1) (next core.table b m.line) ms)

-- The parameters of a body were bound.
abbrev pub bind_parameters : ℕ → List Ty → List Bound → List Bound
bind_parameters n [] bound = bound
bind_parameters n (t ∷ ts) bound = bind_parameters (suc n) ts (bound_too (record { 0 = n }) t bound)

-- What stands before a body.
abbrev pub before_body : Body → Before
before_body body = record { bound = bind_parameters 0 body.parameters []; cased = [] }

-- The first broken rule of bodies, where the first term has this number.
abbrev pub broken_in : CoreTree → ℕ → List Body → Broken
broken_in core place [] = None
broken_in core place (body ∷ rest) =
    let lines = met_body core.table body in
    or_else (broken_from core place (before_body body) lines) (broken_in core (place + length lines) rest)

-- The first broken rule of a core.
abbrev pub first_broken : CoreTree → Broken
first_broken core = broken_in core 0 (bodies core)

-- Lines break no rule.
abbrev pub LinesAreBuilt : CoreTree → Before → List Met → Type 0
LinesAreBuilt core b [] = Unit {0}
LinesAreBuilt core b (m ∷ ms) = (least (rules core b m.with m.line) ≡ None) × LinesAreBuilt core (next core.table b m.line) ms

-- A body breaks no rule.
abbrev pub IsBuilt : CoreTree → Body → Type 0
IsBuilt core body = LinesAreBuilt core (before_body body) (met_body core.table body)

-- A core breaks no rule.
abbrev pub AreBuilt : CoreTree → Type 0
AreBuilt core = AllByRecursion (IsBuilt core) (bodies core)
