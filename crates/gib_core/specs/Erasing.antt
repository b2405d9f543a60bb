-- The source term that is left of a core without destinations, heads, reaches and marks.
use Rattle.std.specs.Prelude.{ℕ, zero, suc, ◌+◌, ℤ, pos, negsuc, ◌==◌, if◌then◌else◌, List, [], ◌∷◌, map, Option, Some, None}
use Rattle.gib_base.specs.declared.Span.{Span}
use Rattle.gib_types.specs.declared.table.Ty.{Ty}
use Rattle.gib_types.specs.declared.table.Ty.TheVariants.{Whole, Truth, Tree}
use Rattle.gib_types.specs.Table.{Table, fields_at, name_at, merge}
use Rattle.gib_syntax.specs.declared.tree.Ident.{Ident}
use Rattle.gib_syntax.specs.declared.tree.Parameter.{Parameter}
use Rattle.gib_syntax.specs.declared.tree.TypeName.{TypeName}
use Rattle.gib_syntax.specs.declared.tree.TypeName.TheVariants as ty
use Rattle.gib_syntax.specs.Results.{map_results}
use Rattle.gib_syntax.specs.Tree as source
use Rattle.gib_syntax.specs.Tree.{Expression, Arguments, Arms, Var, Num, Bit, Op, Call, Make, Let, Par, If, Case, LetSeveral, ParSeveral, NoArgument, Argument, LastArm, NextArm, DataTree, FunctionTree, ProgramTree}
use Rattle.gib_core.specs.declared.atom.Variable.{Variable}
use Rattle.gib_core.specs.declared.atom.Atom.{Atom}
use Rattle.gib_core.specs.declared.atom.Atom.TheVariants as a
use Rattle.gib_core.specs.declared.atom.Kind.{Kind}
use Rattle.gib_core.specs.declared.atom.Kind.TheVariants.{Here, Region}
use Rattle.gib_core.specs.Tree.{Term, Then, Write, Point, CallTerm, Give, CaseTerm, IfTerm, Tuple, PartTerms, NoPart, PartThen, Bind, Past, One, Both, Prim, Reach, Side, On, Several, Branches, NoBranch, BranchThen, FunctionTerm, CoreTree}

-- The place of what stands in no source text.
abbrev pub nowhere : Span
nowhere = record { start = 0; end = 0 }

-- A name of a number, in no source text.
abbrev pub ident : ℕ → Ident
ident n = record { name = record { 0 = n }; span = nowhere }

-- A number that is no literal of the source is 0; terms have none.
abbrev pub literal_of : ℤ → ℕ
literal_of (pos n) = n
literal_of (negsuc n) = 0

-- An atom as an expression.
abbrev pub expression_of : Atom → Expression
expression_of (a.Variable x) = Var (ident x.0)
expression_of (a.Whole z) = Num nowhere (literal_of z)
expression_of (a.Truth b) = Bit nowhere b

-- Expressions as arguments.
abbrev pub arguments_of : List Expression → Arguments
arguments_of [] = NoArgument
arguments_of (e ∷ es) = Argument e (arguments_of es)

-- What variables are put for: an atom for each, the newest first. Any other variable stays.
abbrev pub Substitution : Type 0
Substitution = List (ℕ × Atom)

-- What is put for a variable.
abbrev pub put_for : Substitution → Variable → Atom
put_for [] x = a.Variable x
put_for (b ∷ sub) x = if b.0 == x.0 then b.1 else put_for sub x

-- What is put for an atom.
abbrev pub put_in : Substitution → Atom → Atom
put_in sub (a.Variable x) = put_for sub x
put_in sub (a.Whole z) = a.Whole z
put_in sub (a.Truth b) = a.Truth b

-- An atom as an expression, with what is put for it.
abbrev pub erase_atom : Substitution → Atom → Expression
erase_atom sub x = expression_of (put_in sub x)

-- A case of these arms on an atom; on a literal, or of no arm, which no core of a source has, it is 0.
abbrev pub case_of : Atom → Option Arms → Expression
case_of x None = Num nowhere 0
case_of (a.Variable x) (Some arms) = Case nowhere (ident x.0) arms
case_of (a.Whole z) (Some arms) = Num nowhere 0
case_of (a.Truth b) (Some arms) = Num nowhere 0

-- One more arm, before the others.
abbrev pub arm_before : Ident → List Ident → Expression → Option Arms → Option Arms
arm_before k xs e None = Some (LastArm k xs e)
arm_before k xs e (Some arms) = Some (NextArm k xs e arms)

-- The variable that a term points to, where it is `point` at a place or in a region of its own.
abbrev pub left_out : Kind → Term → Option Atom
left_out Here (Point y) = Some y
left_out Region (Point y) = Some y
left_out kind t = None

-- A bound expression before the rest of its line; one that is left out has an atom put for its variable.
abbrev pub let_or_put : Option Atom → Variable → Expression → Substitution → (Substitution → Expression) → Expression
let_or_put None x e sub rest = Let nowhere (ident x.0) e (rest sub)
let_or_put (Some y) x e sub rest = rest ((x.0, put_in sub y) ∷ sub)

-- The name of a declared type.
abbrev pub declared_name : List ℕ → ℕ → ℕ
declared_name [] n = 0
declared_name (x ∷ xs) zero = x
declared_name (x ∷ xs) (suc n) = declared_name xs n

-- A type as it is written.
abbrev pub type_name : Table → Ty → TypeName
type_name table Whole = ty.Whole nowhere
type_name table Truth = ty.Truth nowhere
type_name table (Tree t) = ty.Declared (ident (declared_name table.types t.0))

-- A variable as a parameter of the type.
abbrev pub parameter_of : Table → Variable → Ty → Parameter
parameter_of table x t = record { name = ident x.0; ty = type_name table t }

-- Variables as parameters of these types, as many as there are of both.
abbrev pub parameters_of : Table → List Variable → List Ty → List Parameter
parameters_of table [] tys = []
parameters_of table (x ∷ xs) [] = []
parameters_of table (x ∷ xs) (t ∷ tys) = parameter_of table x t ∷ parameters_of table xs tys

-- The variables of a side as parameters of their types.
abbrev pub side_parameters : Table → Side → List Parameter
side_parameters table (On kind x ty t) = parameter_of table x ty ∷ []
side_parameters table (Several xs tys t) = parameters_of table xs tys

-- Two sides, whose terms became these expressions, before an expression.
abbrev pub par_of : Table → Side → Expression → Side → Expression → Expression → Expression
par_of table (On kind x ty t) d (On kind' y ty' u) e rest = Par nowhere (ident x.0) d (ident y.0) e rest
par_of table (On kind x ty t) d (Several ys tys u) e rest = ParSeveral nowhere (parameter_of table x ty ∷ []) d (parameters_of table ys tys) e rest
par_of table (Several xs tys t) d r e rest = ParSeveral nowhere (parameters_of table xs tys) d (side_parameters table r) e rest

abbrev mutual
  -- The expression that is left of a term. A `here` or `region` whose right side is `point y`, and that is no
  -- side of a par, is left out, and y put for its variable.
  pub erase : Table → Substitution → Term → Expression
  erase table sub (Then b rest) = erase_bind table sub b (λ s. erase table s rest)
  erase table sub (Write h k ss ps) =
      Make (ident (name_at table k.0)) (arguments_of (merge (fields_at table k.0) (map (erase_atom sub) ss) (map (erase_atom sub) ps)))
  erase table sub (Point x) = erase_atom sub x
  erase table sub (CallTerm f xs) = Call (ident f.0) (arguments_of (map (erase_atom sub) xs))
  erase table sub (Give x) = erase_atom sub x
  erase table sub (CaseTerm x branches) = case_of (put_in sub x) (erase_branches table sub branches)
  erase table sub (IfTerm x t u) = If nowhere (erase_atom sub x) (erase table sub t) (erase table sub u)
  erase table sub (Tuple tys ss ps) = source.Tuple nowhere (map (type_name table) tys) (arguments_of (merge tys (map (erase_atom sub) ss) (erase_parts table sub ps)))

  -- A binding before the rest of its line.
  pub erase_bind : Table → Substitution → Bind → (Substitution → Expression) → Expression
  erase_bind table sub (Past h k) rest = rest sub
  erase_bind table sub (One s) rest = erase_one table sub s rest
  erase_bind table sub (Both fork l r) rest = par_of table l (erase_side table sub l) r (erase_side table sub r) (rest sub)
  erase_bind table sub (Prim x f y z) rest = Let nowhere (ident x.0) (Op nowhere f (erase_atom sub y) (erase_atom sub z)) (rest sub)
  erase_bind table sub (Reach y by) rest = rest sub

  -- What is bound to a term, before the rest of its line.
  pub erase_one : Table → Substitution → Side → (Substitution → Expression) → Expression
  erase_one table sub (On kind x ty t) rest = let_or_put (left_out kind t) x (erase table sub t) sub rest
  erase_one table sub (Several xs tys t) rest = LetSeveral nowhere (parameters_of table xs tys) (erase table sub t) (rest sub)

  -- The term of a side.
  pub erase_side : Table → Substitution → Side → Expression
  erase_side table sub (On kind x ty t) = erase table sub t
  erase_side table sub (Several xs tys t) = erase table sub t

  -- The terms of parts.
  pub erase_parts : Table → Substitution → PartTerms → List Expression
  erase_parts table sub NoPart = []
  erase_parts table sub (PartThen t ps) = erase table sub t ∷ erase_parts table sub ps

  -- The arms of branches, where there are any.
  pub erase_branches : Table → Substitution → Branches → Option Arms
  erase_branches table sub NoBranch = None
  erase_branches table sub (BranchThen k xs t rest) =
      arm_before (ident (name_at table k.0)) (map (λ (x : Variable). ident x.0) xs) (erase table sub t) (erase_branches table sub rest)

-- The variables from a number on as parameters of these types.
abbrev pub parameters_from : Table → ℕ → List Ty → List Parameter
parameters_from table n [] = []
parameters_from table n (t ∷ ts) = record { name = ident n; ty = type_name table t } ∷ parameters_from table (n + 1) ts

-- The function that is left.
abbrev pub erase_function : Table → FunctionTerm → FunctionTree
erase_function table f = record {
  name = record { name = f.name; span = nowhere };
  parameters = parameters_from table 0 f.parameters;
  result = map_results (type_name table) f.result;
  body = erase table [] f.body;
}

-- The program that is left, with the data declarations of the source.
abbrev pub erase_core : List DataTree → CoreTree → ProgramTree
erase_core datas core = record {
  datas = datas;
  functions = map (erase_function core.table) core.functions;
  main = record {
    parameter = record { name = ident 0; ty = type_name core.table core.main.parameter };
    result = type_name core.table core.main.result;
    body = erase core.table [] core.main.body;
  };
}
