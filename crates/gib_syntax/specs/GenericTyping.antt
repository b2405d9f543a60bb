-- Which programs with type parameters are typed.
use Rattle.std.specs.Prelude.{◌≡◌, ◌≤◌, ℕ, ◌+◌, ◌==◌, if◌then◌else◌, List, [], ◌∷◌, length, map, slice_get, Option, Some, None}
use Rattle.std.specs.List.{AllByRecursion}
use Rattle.gib_syntax.specs.declared.tree.Ident.{Ident}
use Rattle.gib_types.specs.declared.operator.Operator.{Operator}
use Rattle.gib_types.specs.declared.operator.Operator.TheVariants as o
use Rattle.gib_syntax.specs.Results.{Results, One, Several, map_results, as_results}
use Rattle.gib_syntax.specs.Declarations.{number_of, place_of, AreDifferent}
use Rattle.gib_syntax.specs.Forms.{WrittenType, WrittenTypes, WholeAt, TruthAt, VariableAt, DataAt, NoType, MoreTypes, Form, Forms, WholeForm, TruthForm, VariableForm, DataForm, Meant, formed, formed_all, assign, count_written}
use Rattle.gib_syntax.specs.GenericTree.{GenericExpression, GenericArguments, GenericArms, GenericVar, GenericNum, GenericBit, GenericParen, GenericOp, GenericCall, GenericMake, GenericLet, GenericPar, GenericIf, GenericCase, GenericTuple, GenericNoArgument, GenericArgument, GenericLastArm, GenericNextArm, GenericConstructorTree, GenericDataTree, GenericParameterTree, GenericFunctionTree, GenericProgramTree, GenericRow, GenericGlobals, globals_of_generic, rows_of, place_named, generic_named, data_named}

-- The variables in scope with their types, the newest first.
abbrev pub FormScope : Type 0
FormScope = List (ℕ × Form)

-- The type of a variable.
abbrev pub form_in : FormScope → ℕ → Option Form
form_in [] x = None
form_in (b ∷ scope) x = if b.0 == x then Some b.1 else form_in scope x

-- One more variable.
abbrev pub form_bound : Ident → Form → FormScope → FormScope
form_bound x t scope = (number_of x, t) ∷ scope

-- Variables for as many fields, none of them in scope already: the scope with them.
abbrev pub BindsForms : FormScope → List Ident → List Form → FormScope → Type 0
BindsForms scope [] [] inner = inner ≡ scope
BindsForms scope [] (t ∷ ts) inner = ⊥
BindsForms scope (x ∷ xs) [] inner = ⊥
BindsForms scope (x ∷ xs) (t ∷ ts) inner = (form_in scope (number_of x) ≡ None) × BindsForms (form_bound x t scope) xs ts inner

-- What an operator gives.
abbrev pub operator_form : Operator → Form
operator_form o.Add = WholeForm
operator_form o.Subtract = WholeForm
operator_form o.Multiply = WholeForm
operator_form o.Equal = TruthForm
operator_form o.Less = TruthForm
operator_form o.Quotient = WholeForm
operator_form o.Remainder = WholeForm

-- The types of a constructor's fields, where its type's variables stand for these types.
abbrev pub field_forms : GenericRow → Forms → List Form
field_forms row ts = map (formed (assign row.variables ts)) row.fields

-- The types of a function's parameters, where its type variables stand for these types.
abbrev pub parameter_forms : GenericFunctionTree → Forms → List Form
parameter_forms f ts = map (λ (q : GenericParameterTree). formed (assign f.variables ts) q.ty) f.parameters

-- The type of its result, or those of the parts.
abbrev pub result_forms : GenericFunctionTree → Forms → Results Form
result_forms f ts = map_results (formed (assign f.variables ts)) f.result

-- The one type; of several parts, where it is not asked, `Int`.
abbrev pub one_form : Results Form → Form
one_form (One t) = t
one_form (Several ts) = WholeForm

-- The type of the result of a function that gives one thing.
abbrev pub result_form : GenericFunctionTree → Forms → Form
result_form f ts = one_form (result_forms f ts)

-- A written type is `Int`, `Bool`, one of these type variables, or a declared type with as many known arguments as it
-- has variables.
abbrev mutual
  pub IsKnownType : List GenericDataTree → List ℕ → WrittenType → Type 0
  IsKnownType datas vars (WholeAt p) = Unit {0}
  IsKnownType datas vars (TruthAt p) = Unit {0}
  IsKnownType datas vars (VariableAt x) = (i : ℕ) × (place_of vars (number_of x) ≡ Some i)
  IsKnownType datas vars (DataAt p x ws) =
      (d : GenericDataTree) × (data_named datas (number_of x) ≡ Some d) × (count_written ws ≡ length d.variables) × AreKnownTypes datas vars ws

  pub AreKnownTypes : List GenericDataTree → List ℕ → WrittenTypes → Type 0
  AreKnownTypes datas vars NoType = Unit {0}
  AreKnownTypes datas vars (MoreTypes w ws) = IsKnownType datas vars w × AreKnownTypes datas vars ws

-- The names of the constructors of arms.
abbrev pub generic_arm_names : GenericArms → List ℕ
generic_arm_names (GenericLastArm k xs e) = number_of k ∷ []
generic_arm_names (GenericNextArm k xs e arms) = number_of k ∷ generic_arm_names arms

-- Arms of these constructors are those of a type: each constructor of the type has one arm, and no other arm is there.
pub record CoversType (rows : List GenericRow) (t : ℕ) (names : List ℕ) : Type 0 where
  pub own : AllByRecursion (λ k. (c : ℕ) × (row : GenericRow) × (place_named rows k ≡ Some c) × (slice_get rows c ≡ Some row) × (row.owner ≡ t)) names
  pub each : (c : ℕ) (row : GenericRow) → slice_get rows c ≡ Some row → row.owner ≡ t → (i : ℕ) × (place_of names row.name ≡ Some i)
  pub once : AreDifferent names

-- A binding of parts has one to eight variables.
abbrev pub AreNames : List Ident → Type 0
AreNames xs = (1 ≤ length xs) × (length xs ≤ 8)

-- The expression gives something of the type, or parts of the types, where these variables are in scope, these type variables
-- are known, and each of them stands for a type.
abbrev mutual
  pub HasForm : GenericGlobals → List ℕ → Meant → FormScope → GenericExpression → Results Form → Type 0
  HasForm g vars m scope (GenericVar x) r = (t : Form) × (r ≡ One t) × (form_in scope (number_of x) ≡ Some t)
  HasForm g vars m scope (GenericNum p n) r = r ≡ One WholeForm
  HasForm g vars m scope (GenericBit p b) r = r ≡ One TruthForm
  HasForm g vars m scope (GenericParen p e) r = HasForm g vars m scope e r
  HasForm g vars m scope (GenericOp p f a b) r =
      (r ≡ One (operator_form f)) × HasForm g vars m scope a (One WholeForm) × HasForm g vars m scope b (One WholeForm)
  HasForm g vars m scope (GenericCall f ws xs) r =
      (h : GenericFunctionTree) × (generic_named g.functions (number_of f) ≡ Some h) × (count_written ws ≡ length h.variables) × AreKnownTypes g.datas vars ws
      × (r ≡ result_forms h (formed_all m ws)) × HaveForms g vars m scope xs (parameter_forms h (formed_all m ws))
  HasForm g vars m scope (GenericMake k ws xs) r =
      (c : ℕ) × (row : GenericRow) × (place_named g.rows (number_of k) ≡ Some c) × (slice_get g.rows c ≡ Some row) × (count_written ws ≡ length row.variables)
      × AreKnownTypes g.datas vars ws × (r ≡ One (DataForm row.owner (formed_all m ws))) × HaveForms g vars m scope xs (field_forms row (formed_all m ws))
  HasForm g vars m scope (GenericLet p xs a b) r =
      (ss : List Form) × (inner : FormScope) × AreNames xs × HasForm g vars m scope a (as_results ss)
      × BindsForms scope xs ss inner × HasForm g vars m inner b r
  HasForm g vars m scope (GenericPar p xs a ys b c) r =
      (ss ts : List Form) × (middle inner : FormScope) × AreNames xs × AreNames ys
      × HasForm g vars m scope a (as_results ss) × HasForm g vars m scope b (as_results ts)
      × BindsForms scope xs ss middle × BindsForms middle ys ts inner × HasForm g vars m inner c r
  HasForm g vars m scope (GenericIf p a b c) r = HasForm g vars m scope a (One TruthForm) × HasForm g vars m scope b r × HasForm g vars m scope c r
  HasForm g vars m scope (GenericCase p x arms) r =
      (t : ℕ) × (ts : Forms) × (form_in scope (number_of x) ≡ Some (DataForm t ts)) × CoversType g.rows t (generic_arm_names arms)
      × ArmsHaveForm g vars m scope t ts arms r
  HasForm g vars m scope (GenericTuple p xs) r = (ts : List Form) × (r ≡ Several ts) × HaveForms g vars m scope xs ts

  -- Arguments have these types, as many as there are.
  pub HaveForms : GenericGlobals → List ℕ → Meant → FormScope → GenericArguments → List Form → Type 0
  HaveForms g vars m scope GenericNoArgument [] = Unit {0}
  HaveForms g vars m scope GenericNoArgument (t ∷ ts) = ⊥
  HaveForms g vars m scope (GenericArgument a xs) [] = ⊥
  HaveForms g vars m scope (GenericArgument a xs) (t ∷ ts) = HasForm g vars m scope a (One t) × HaveForms g vars m scope xs ts

  -- Each arm, of a constructor of the type at these types, binds as many new variables as that has fields, and gives such a thing.
  pub ArmsHaveForm : GenericGlobals → List ℕ → Meant → FormScope → ℕ → Forms → GenericArms → Results Form → Type 0
  ArmsHaveForm g vars m scope t ts (GenericLastArm k xs e) r =
      (c : ℕ) × (row : GenericRow) × (inner : FormScope) × (place_named g.rows (number_of k) ≡ Some c) × (slice_get g.rows c ≡ Some row) × (row.owner ≡ t)
      × BindsForms scope xs (field_forms row ts) inner × HasForm g vars m inner e r
  ArmsHaveForm g vars m scope t ts (GenericNextArm k xs e arms) r =
      ((c : ℕ) × (row : GenericRow) × (inner : FormScope) × (place_named g.rows (number_of k) ≡ Some c) × (slice_get g.rows c ≡ Some row) × (row.owner ≡ t)
      × BindsForms scope xs (field_forms row ts) inner × HasForm g vars m inner e r) × ArmsHaveForm g vars m scope t ts arms r

-- How many expressions an expression is; parentheses round one, and the variable of a case, are none.
abbrev mutual
  pub generic_expressions : GenericExpression → ℕ
  generic_expressions (GenericVar x) = 1
  generic_expressions (GenericNum p n) = 1
  generic_expressions (GenericBit p b) = 1
  generic_expressions (GenericParen p e) = generic_expressions e
  generic_expressions (GenericOp p f a b) = generic_expressions a + generic_expressions b + 1
  generic_expressions (GenericCall f ws xs) = all_generic_expressions xs + 1
  generic_expressions (GenericMake k ws xs) = all_generic_expressions xs + 1
  generic_expressions (GenericLet p xs a b) = generic_expressions a + generic_expressions b + 1
  generic_expressions (GenericPar p xs a ys b c) = generic_expressions a + generic_expressions b + generic_expressions c + 1
  generic_expressions (GenericIf p a b c) = generic_expressions a + generic_expressions b + generic_expressions c + 1
  generic_expressions (GenericCase p x arms) = arm_generic_expressions arms + 1
  generic_expressions (GenericTuple p xs) = all_generic_expressions xs + 1

  pub all_generic_expressions : GenericArguments → ℕ
  all_generic_expressions GenericNoArgument = 0
  all_generic_expressions (GenericArgument a xs) = generic_expressions a + all_generic_expressions xs

  pub arm_generic_expressions : GenericArms → ℕ
  arm_generic_expressions (GenericLastArm k xs e) = generic_expressions e
  arm_generic_expressions (GenericNextArm k xs e arms) = generic_expressions e + arm_generic_expressions arms

-- How many variables an expression binds.
abbrev mutual
  pub generic_bindings : GenericExpression → ℕ
  generic_bindings (GenericVar x) = 0
  generic_bindings (GenericNum p n) = 0
  generic_bindings (GenericBit p b) = 0
  generic_bindings (GenericParen p e) = generic_bindings e
  generic_bindings (GenericOp p f a b) = generic_bindings a + generic_bindings b
  generic_bindings (GenericCall f ws xs) = all_generic_bindings xs
  generic_bindings (GenericMake k ws xs) = all_generic_bindings xs
  generic_bindings (GenericLet p xs a b) = generic_bindings a + generic_bindings b + length xs
  generic_bindings (GenericPar p xs a ys b c) = generic_bindings a + generic_bindings b + generic_bindings c + (length xs + length ys)
  generic_bindings (GenericIf p a b c) = generic_bindings a + generic_bindings b + generic_bindings c
  generic_bindings (GenericCase p x arms) = arm_generic_bindings arms
  generic_bindings (GenericTuple p xs) = all_generic_bindings xs

  pub all_generic_bindings : GenericArguments → ℕ
  all_generic_bindings GenericNoArgument = 0
  all_generic_bindings (GenericArgument a xs) = generic_bindings a + all_generic_bindings xs

  pub arm_generic_bindings : GenericArms → ℕ
  arm_generic_bindings (GenericLastArm k xs e) = length xs + generic_bindings e
  arm_generic_bindings (GenericNextArm k xs e arms) = length xs + generic_bindings e + arm_generic_bindings arms

-- The numbers of type variables.
abbrev pub variable_numbers : List Ident → List ℕ
variable_numbers vs = map number_of vs

-- Each type variable stands for itself: it is opaque.
abbrev pub opaque : Meant
opaque x = VariableForm x

-- Type variables: at most eight, none twice.
abbrev pub AreTypeVariables : List Ident → Type 0
AreTypeVariables vs = (length vs ≤ 8) × AreDifferent (variable_numbers vs)

-- The type of a parameter is known.
abbrev pub HasKnownForm : List GenericDataTree → List ℕ → GenericParameterTree → Type 0
HasKnownForm datas vars q = IsKnownType datas vars q.ty

-- What a function gives is of a known type, or of at most eight known types.
abbrev pub AreKnownResults : List GenericDataTree → List ℕ → Results WrittenType → Type 0
AreKnownResults datas vars (One w) = IsKnownType datas vars w
AreKnownResults datas vars (Several ws) = (length ws ≤ 8) × AllByRecursion (IsKnownType datas vars) ws

-- A function, or main as one of a single parameter, one result and no type variables, is typed, where its type variables are opaque.
pub record IsTypedGenericFunction (g : GenericGlobals) (variables : List Ident) (parameters : List GenericParameterTree)
    (result : Results WrittenType) (body : GenericExpression) : Type 0 where
  pub type_variables : AreTypeVariables variables
  pub known : AllByRecursion (HasKnownForm g.datas (variable_numbers variables)) parameters
  pub known_result : AreKnownResults g.datas (variable_numbers variables) result
  pub scope : FormScope
  pub bound : BindsForms [] (map (λ (q : GenericParameterTree). q.name) parameters) (map (λ (q : GenericParameterTree). formed opaque q.ty) parameters) scope
  pub typed : HasForm g (variable_numbers variables) opaque scope body (map_results (formed opaque) result)
  pub few_variables : length parameters + generic_bindings body ≤ 200
  pub few_expressions : generic_expressions body ≤ 2000

-- A function is typed, where its body may name these constructors and functions.
abbrev pub IsTypedGenericHere : GenericGlobals → GenericFunctionTree → Type 0
IsTypedGenericHere g f = IsTypedGenericFunction g f.variables f.parameters f.result f.body

-- A constructor has at most eight fields, of known types.
abbrev pub HasKnownGenericFields : List GenericDataTree → List ℕ → GenericConstructorTree → Type 0
HasKnownGenericFields datas vars c = (length c.fields ≤ 8) × AllByRecursion (IsKnownType datas vars) c.fields

-- A data declaration has type variables and known fields.
abbrev pub IsKnownData : List GenericDataTree → GenericDataTree → Type 0
IsKnownData datas d = AreTypeVariables d.variables × AllByRecursion (HasKnownGenericFields datas (variable_numbers d.variables)) d.constructors

-- A program is typed.
pub record IsTypedGeneric (p : GenericProgramTree) : Type 0 where
  pub types_differ : AreDifferent (map (λ (d : GenericDataTree). number_of d.name) p.datas)
  pub constructors_differ : AreDifferent (map (λ (r : GenericRow). r.name) (rows_of p.datas))
  pub few_constructors : length (rows_of p.datas) ≤ 200
  pub datas : AllByRecursion (IsKnownData p.datas) p.datas
  pub functions_differ : AreDifferent (map (λ (f : GenericFunctionTree). number_of f.name) p.functions)
  pub few_functions : length p.functions ≤ 1000
  pub functions : AllByRecursion (IsTypedGenericHere (globals_of_generic p)) p.functions
  pub main : IsTypedGenericFunction (globals_of_generic p) [] (p.main.parameter ∷ []) (One p.main.result) p.main.body
