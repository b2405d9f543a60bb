-- A core as a LoCal text.
use Rattle.std.specs.Prelude.{◌≡◌, ℕ, ◌+◌, ◌^◌, Bool, true, false, List, [], ◌∷◌, map, Option, Some, None, get_or}
use Rattle.gib_base.specs.declared.Span.{Span}
use Rattle.gib_types.specs.declared.table.Ty.{Ty}
use Rattle.gib_types.specs.declared.table.Ty.TheVariants.{Whole, Truth, Tree}
use Rattle.gib_types.specs.declared.table.ConId.{ConId}
use Rattle.gib_types.specs.Table.{Table, fields_at, name_at, merge}
use Rattle.gib_syntax.specs.declared.tree.Ident.{Ident}
use Rattle.gib_syntax.specs.declared.tree.TypeName.{TypeName}
use Rattle.gib_syntax.specs.declared.tree.TypeName.TheVariants as ty
use Rattle.gib_syntax.specs.declared.tree.Parameter.{Parameter}
use Rattle.gib_types.specs.Operators.{operator_type}
use Rattle.gib_syntax.specs.Tree.{DataTree}
use Rattle.gib_syntax.specs.Results as results
use Rattle.gib_syntax.specs.Results.{Results}
use Rattle.gib_core.specs.declared.atom.Variable.{Variable}
use Rattle.gib_core.specs.declared.atom.Atom.{Atom}
use Rattle.gib_core.specs.declared.atom.Atom.TheVariants as a
use Rattle.gib_core.specs.declared.atom.Kind.{Kind}
use Rattle.gib_core.specs.declared.atom.Kind.TheVariants.{Here, Region, Scalar}
use Rattle.gib_core.specs.declared.atom.Access.{Access}
use Rattle.gib_core.specs.declared.atom.Access.TheVariants as by
use Rattle.gib_core.specs.Erasing.{literal_of}
use Rattle.gib_core.specs.Tree.{Term, Then, Write, Point, CallTerm, Give, CaseTerm, IfTerm, Tuple, Bind, Past, One, Both, Prim, Reach, Side, On, Several, Branches, NoBranch, BranchThen, FunctionTerm, CoreTree}
use Rattle.gib_core.specs.Met.{Destination, Nowhere, Empty, Open, InParts, stands_too, stands_behind, result_place}
use Rattle.gib_local_parse.specs.Tree.{Line, In, Given, Pointed, Called, Made, Cased, Chosen, NewRegion, NewPlace, LetIn, ParIn, PrimIn, ReachIn, Bound, Be, Arms, LastArm, NextArm, FunctionText, LocalTree}
use Rattle.gib_local_parse.specs.declared.tree.Mark.{Mark}
use Rattle.gib_local_parse.specs.declared.tree.Operand.{Operand}
use Rattle.gib_local_parse.specs.declared.tree.Operand.TheVariants.{Named, Number, Bit}
use Rattle.gib_local_parse.specs.declared.tree.Location.TheVariants.{Start, Plus, After}
use Rattle.gib_local_parse.specs.declared.tree.Way.{Way}
use Rattle.gib_local_parse.specs.declared.tree.Way.TheVariants.{ByOffset, BySkip, ByEnd}
use Rattle.gib_local.specs.Building.{is_flat}

-- The names that a text gives to variables, to the locations at which they stand or behind their heads, and to their
-- regions, each by the number of a variable. The name of location 0 is that of the result.
pub record Naming : Type 0 where
  pub variable : ℕ → ℕ
  pub location : ℕ → ℕ
  pub region : ℕ → ℕ

-- The span of what stands in no text.
abbrev pub nowhere : Span
nowhere = record { start = 0; end = 0 }

-- A name.
abbrev pub ident : ℕ → Ident
ident n = record { name = record { 0 = n }; span = nowhere }

-- Names of a program have smaller numbers, and those that its text gives have numbers from this one on.
abbrev pub first_given : ℕ
first_given = 2 ^ 31

-- Several parts have no text: where they stand a constructor or a type is named so, which is no name.
abbrev pub no_name : Ident
no_name = ident first_given

-- An `@` with the name of a location.
abbrev pub mark : Naming → ℕ → Mark
mark nm n = record { sign = nowhere; name = ident (nm.location n) }

-- The name of a variable.
abbrev pub named : Naming → Variable → Ident
named nm x = ident (nm.variable x.0)

-- The variable that an atom is.
abbrev pub atom_name : Naming → Atom → Ident
atom_name nm (a.Variable x) = named nm x
atom_name nm (a.Whole z) = ident 0
atom_name nm (a.Truth b) = ident 0

-- An atom.
abbrev pub operand : Naming → Atom → Operand
operand nm (a.Variable x) = Named (named nm x)
operand nm (a.Whole z) = Number nowhere (literal_of z)
operand nm (a.Truth b) = Bit nowhere b

-- A type.
abbrev pub type_text : Table → Ty → TypeName
type_text tb Whole = ty.Whole nowhere
type_text tb Truth = ty.Truth nowhere
type_text tb (Tree t) = ty.Declared (ident (get_or tb.types t.0 0))

-- A type of a function's result.
abbrev pub result_text : Table → Results Ty → TypeName
result_text tb (results.One t) = type_text tb t
result_text tb (results.Several ts) = ty.Declared no_name

-- A constructor.
abbrev pub con_text : Table → ConId → Ident
con_text tb k = ident (name_at tb k.0)

-- How a field is reached.
abbrev pub way : Naming → Access → Way
way nm by.Offset = ByOffset
way nm (by.Skip z) = BySkip (named nm z)
way nm (by.End z) = ByEnd (named nm z)

-- By which variable the location of the next field is named: the first is named with its head, each other one directly
-- before the variable that is put there.
abbrev pub place_number : Destination → ℕ → ℕ
place_number Nowhere x = x
place_number Empty x = x
place_number (InParts ts) x = x
place_number (Open h k []) x = h.0
place_number (Open h k (y ∷ ys)) x = x

-- The last of these variables.
abbrev pub last_of : Variable → List Variable → Variable
last_of x [] = x
last_of x (y ∷ ys) = last_of y ys

-- A location behind the last field that stands gets its name.
abbrev pub before_field : Naming → Destination → ℕ → Line → Line
before_field nm Nowhere x rest = rest
before_field nm Empty x rest = rest
before_field nm (InParts ts) x rest = rest
before_field nm (Open h k []) x rest = rest
before_field nm (Open h k (y ∷ ys)) x rest = In nowhere (NewPlace (ident (nm.location x)) (After (named nm (last_of y ys)))) rest

-- What stands before a variable's binding.
abbrev pub before : Naming → Destination → Kind → ℕ → Line → Line
before nm d Here x rest = before_field nm d x rest
before nm d Region x rest = In nowhere (NewRegion (ident (nm.region x))) (In nowhere (NewPlace (ident (nm.location x)) (Start (ident (nm.region x)))) rest)
before nm d Scalar x rest = rest

-- The number by which a side's location is named.
abbrev pub side_number : Destination → Kind → ℕ → ℕ
side_number d Here x = place_number d x
side_number d Region x = x
side_number d Scalar x = x

-- The `@` of a side.
abbrev pub side_mark : Naming → Kind → ℕ → Option Mark
side_mark nm Here n = Some (mark nm n)
side_mark nm Region n = Some (mark nm n)
side_mark nm Scalar n = None

-- Where a side's term is put.
abbrev pub side_place : Kind → Destination
side_place Here = Empty
side_place Region = Empty
side_place Scalar = Nowhere

-- The `@` of a call.
abbrev pub call_mark : Naming → Destination → ℕ → Option Mark
call_mark nm Nowhere at = None
call_mark nm Empty at = Some (mark nm at)
call_mark nm (Open h k standing) at = Some (mark nm at)
call_mark nm (InParts ts) at = Some (mark nm at)

-- The destination behind a side.
abbrev pub behind_one : Destination → Side → Destination
behind_one d s = stands_behind s d

-- The destination behind a binding.
abbrev pub behind_bind : Destination → Bind → Destination
behind_bind d (Past h k) = Open h k []
behind_bind d (One s) = behind_one d s
behind_bind d (Both fork l r) = behind_one (behind_one d l) r
behind_bind d (Prim x f y z) = d
behind_bind d (Reach y way) = d

-- Both sides are fields.
abbrev pub are_fields : Kind → Kind → Bool
are_fields Here Here = true
are_fields Here Region = false
are_fields Here Scalar = false
are_fields Region r = false
are_fields Scalar r = false

-- A head is opened; that of a constructor without packed fields has no text of its own.
abbrev pub open_text : Bool → Naming → ℕ → Variable → Ident → Line → Line
open_text true nm at h k rest = rest
open_text false nm at h k rest = In nowhere (NewPlace (ident (nm.location h.0)) (Plus (ident (nm.location at)) k)) rest

-- Several variables.
abbrev pub no_text : Naming → ℕ → Line → Line
no_text nm at rest = open_text false nm at (record { 0 = 0 }) no_name rest

-- Two sides. Where both are fields the right one's location gets its name between them, else before them.
abbrev pub par_text : Bool → Naming → Destination → Kind → ℕ → Kind → ℕ → (ℕ → Bound) → (ℕ → Bound) → Line → Line
par_text true nm d k x j y l r rest =
    before nm d k x (In nowhere (ParIn (l (side_number d k x)) (Some (ident (nm.location y), ident (nm.variable x))) (r y)) rest)
par_text false nm d k x j y l r rest =
    before nm d k x (before nm d j y (In nowhere (ParIn (l (side_number d k x)) None (r (side_number d j y))) rest))

-- The first arm of several.
abbrev pub arms_text : Ident → List Ident → Line → Option Arms → Arms
arms_text k xs t None = LastArm k xs t
arms_text k xs t (Some arms) = NextArm k xs t arms

-- Arms; a case has one at least.
abbrev pub arms_or : Option Arms → Arms
arms_or None = LastArm (ident 0) [] (Given nowhere (Bit nowhere false))
arms_or (Some arms) = arms

abbrev mutual
  -- The line of a term at a destination, whose location is named by this number.
  pub text_of : Naming → Table → Term → Destination → ℕ → Line
  text_of nm tb (Then b rest) d at = bind_text nm tb b d at (text_of nm tb rest (behind_bind d b) at)
  text_of nm tb (Write h k ss ps) d at = Made (con_text tb k) (mark nm at) (map (operand nm) (merge (fields_at tb k.0) ss ps))
  text_of nm tb (Point x) d at = Pointed nowhere (atom_name nm x) (mark nm at)
  text_of nm tb (CallTerm f xs) d at = Called (ident f.0) (map (operand nm) xs) (call_mark nm d at)
  text_of nm tb (Give x) d at = Given nowhere (operand nm x)
  text_of nm tb (CaseTerm x bs) d at = Cased nowhere (atom_name nm x) (arms_or (branches_text nm tb bs d at))
  text_of nm tb (IfTerm x t u) d at = Chosen nowhere (operand nm x) (text_of nm tb t d at) (text_of nm tb u d at)
  text_of nm tb (Tuple ts ss ps) d at = Made no_name (mark nm at) []

  -- A binding, and then the rest of its line.
  pub bind_text : Naming → Table → Bind → Destination → ℕ → Line → Line
  bind_text nm tb (Past h k) d at rest = open_text (is_flat tb k) nm at h (con_text tb k) rest
  bind_text nm tb (One (On k x t u)) d at rest = before nm d k x.0 (In nowhere (LetIn (side_text nm tb (On k x t u) (side_number d k x.0))) rest)
  bind_text nm tb (One (Several xs ts u)) d at rest = no_text nm at rest
  bind_text nm tb (Both fork (On k x t u) (On j y s w)) d at rest =
      par_text (are_fields k j) nm d k x.0 j y.0 (side_text nm tb (On k x t u)) (side_text nm tb (On j y s w)) rest
  bind_text nm tb (Both fork (On k x t u) (Several ys ts w)) d at rest = no_text nm at rest
  bind_text nm tb (Both fork (Several xs ts u) r) d at rest = no_text nm at rest
  bind_text nm tb (Prim x f y z) d at rest = In nowhere (PrimIn (named nm x) (type_text tb (operator_type f)) (operand nm y) f (operand nm z)) rest
  bind_text nm tb (Reach y by) d at rest = In nowhere (ReachIn (named nm y) (way nm by)) rest

  -- A side, whose location is named by this number.
  pub side_text : Naming → Table → Side → ℕ → Bound
  side_text nm tb (On k x t u) n = Be (named nm x) (type_text tb t) (side_mark nm k n) (text_of nm tb u (side_place k) n)
  side_text nm tb (Several xs ts u) n = Be no_name (ty.Declared no_name) None (Made no_name (mark nm n) [])

  -- Branches, where there are some.
  pub branches_text : Naming → Table → Branches → Destination → ℕ → Option Arms
  branches_text nm tb NoBranch d at = None
  branches_text nm tb (BranchThen k xs t bs) d at = Some (arms_text (con_text tb k) (map (named nm) xs) (text_of nm tb t d at) (branches_text nm tb bs d at))

-- Parameters, which are the variables from a number on.
abbrev pub parameters_text : Naming → Table → ℕ → List Ty → List Parameter
parameters_text nm tb n [] = []
parameters_text nm tb n (t ∷ ts) = record { name = ident (nm.variable n); ty = type_text tb t } ∷ parameters_text nm tb (n + 1) ts

-- The `@` of a result.
abbrev pub result_mark : Naming → Ty → Option Mark
result_mark nm Whole = None
result_mark nm Truth = None
result_mark nm (Tree t) = Some (mark nm 0)

-- The `@` of what a function gives; several parts have none.
abbrev pub results_mark : Naming → Results Ty → Option Mark
results_mark nm (results.One t) = result_mark nm t
results_mark nm (results.Several ts) = None

-- A function.
abbrev pub function_text : Naming → Table → FunctionTerm → FunctionText
function_text nm tb f = record {
  name = ident f.name.0;
  parameters = parameters_text nm tb 0 f.parameters;
  result = result_text tb f.result;
  place = results_mark nm f.result;
  body = text_of nm tb f.body (result_place f.result) 0;
}

-- The text of a core, with the data declarations of its program.
abbrev pub local_of : Naming → List DataTree → CoreTree → LocalTree
local_of nm datas core = record {
  datas = datas;
  offsets = map (con_text core.table) core.offsets;
  functions = map (function_text nm core.table) core.functions;
  main = record {
    parameter = record { name = ident (nm.variable 0); ty = type_text core.table core.main.parameter };
    result = type_text core.table core.main.result;
    place = result_mark nm core.main.result;
    body = text_of nm core.table core.main.body (result_place (results.One core.main.result)) 0;
  };
}

-- Names that a printed text gives are told apart: variables, and, in one name space, locations and regions.
pub record Apart (nm : Naming) : Type 0 where
  pub variables : (x y : ℕ) → nm.variable x ≡ nm.variable y → x ≡ y
  pub locations : (x y : ℕ) → nm.location x ≡ nm.location y → x ≡ y
  pub regions : (x y : ℕ) → nm.region x ≡ nm.region y → x ≡ y
  pub apart : (x y : ℕ) → nm.location x ≡ nm.region y → ⊥
