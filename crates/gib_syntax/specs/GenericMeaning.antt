-- What a program with type parameters means: as one without, with types put for the type variables. The types decide
-- which arguments of a constructor and which parts of a tuple are scalars, and so the order of evaluation; nothing else.
use Rattle.std.specs.Prelude.{ℕ, zero, suc, pos, List, [], ◌∷◌, map, slice_get, Option, Some, None}
use Rattle.gib_types.specs.declared.table.Ty.{Ty}
use Rattle.gib_types.specs.declared.table.Ty.TheVariants.{Whole, Truth, Tree}
use Rattle.gib_types.specs.Tree.{Datum, whole, truth, con, data_of}
use Rattle.gib_syntax.specs.declared.tree.Ident.{Ident}
use Rattle.gib_syntax.specs.Declarations.{number_of}
use Rattle.gib_syntax.specs.Meaning.{Outcome, Gives, Stops, Deep, Environment, value_in, bind, bind_results, tuple, with_value, with_values, with_fields, number_in, is_true, is_made_by, parts, outcome, choose}
use Rattle.gib_types.specs.Form.{form_or}
use Rattle.gib_syntax.specs.Forms.{Form, Forms, WholeForm, TruthForm, VariableForm, DataForm, NoForm, Meant, formed, formed_all, assign}
use Rattle.gib_syntax.specs.GenericTree.{GenericExpression, GenericArguments, GenericArms, GenericVar, GenericNum, GenericBit, GenericParen, GenericOp, GenericCall, GenericMake, GenericLet, GenericPar, GenericIf, GenericCase, GenericTuple, GenericNoArgument, GenericArgument, GenericLastArm, GenericNextArm, GenericParameterTree, GenericFunctionTree, GenericProgramTree, GenericRow, GenericGlobals, globals_of_generic, place_named, generic_named}
use Rattle.gib_syntax.specs.GenericTyping.{FormScope, form_in, form_bound, field_forms}
use Rattle.gib_syntax.specs.Inferred.{arguments_of, forms_named, bind_forms, form_of, forms_of_all, bound_forms}

-- A type of which only this is asked, whether it is a scalar.
abbrev pub kind_of : Form → Ty
kind_of WholeForm = Whole
kind_of TruthForm = Truth
kind_of (VariableForm x) = Tree (record { 0 = 0 })
kind_of (DataForm t ts) = Tree (record { 0 = 0 })

-- The kinds of a constructor's fields, where its type's variables stand for these types.
abbrev pub kinds_at : Option GenericRow → Forms → List Ty
kinds_at None ts = []
kinds_at (Some row) ts = map kind_of (field_forms row ts)

-- What a constructor with these type arguments and arguments means.
abbrev pub made_at : List GenericRow → Option ℕ → Forms → List Outcome → Outcome
made_at rows None ts outcomes = Gives (whole (pos 0))
made_at rows (Some c) ts outcomes = with_fields (kinds_at (slice_get rows c) ts) outcomes (λ vs. Gives (con c (data_of vs)))

abbrev mutual
  -- What an expression means, where type variables stand for these types, a call of the function of a name with these type
  -- arguments and arguments means `call`, and variables have these types and values.
  pub meant : GenericGlobals → (ℕ → Forms → List Datum → Outcome) → Meant → FormScope → GenericExpression → Environment → Outcome
  meant g call m scope (GenericVar x) env = Gives (value_in env (number_of x))
  meant g call m scope (GenericNum p n) env = Gives (whole (pos n))
  meant g call m scope (GenericBit p b) env = Gives (truth b)
  meant g call m scope (GenericParen p e) env = meant g call m scope e env
  meant g call m scope (GenericOp p f a b) env =
      with_value (meant g call m scope a env) (λ x. with_value (meant g call m scope b env) (λ y. outcome f (number_in x) (number_in y)))
  meant g call m scope (GenericCall f ws xs) env = with_values (meant_all g call m scope xs env) (call (number_of f) (formed_all m ws))
  meant g call m scope (GenericMake k ws xs) env = made_at g.rows (place_named g.rows (number_of k)) (formed_all m ws) (meant_all g call m scope xs env)
  meant g call m scope (GenericLet p xs a b) env =
      with_value (meant g call m scope a env) (λ v. meant g call m (bind_forms xs (bound_forms g m scope a) scope) b (bind_results xs v env))
  meant g call m scope (GenericPar p xs a ys b c) env =
      with_value (meant g call m scope a env) (λ v. with_value (meant g call m scope b env)
      (λ w. meant g call m (bind_forms ys (bound_forms g m scope b) (bind_forms xs (bound_forms g m scope a) scope)) c
      (bind_results ys w (bind_results xs v env))))
  meant g call m scope (GenericIf p a b c) env =
      with_value (meant g call m scope a env) (λ v. choose (is_true v) (meant g call m scope b env) (meant g call m scope c env))
  meant g call m scope (GenericCase p x arms) env =
      meant_arms g call m scope (arguments_of (form_or (form_in scope (number_of x)))) arms (value_in env (number_of x)) env
  meant g call m scope (GenericTuple p xs) env =
      with_fields (map kind_of (forms_of_all g m scope xs)) (meant_all g call m scope xs env) (λ vs. Gives (tuple vs))

  -- What arguments or parts mean, each by itself, in their order.
  pub meant_all : GenericGlobals → (ℕ → Forms → List Datum → Outcome) → Meant → FormScope → GenericArguments → Environment → List Outcome
  meant_all g call m scope GenericNoArgument env = []
  meant_all g call m scope (GenericArgument a xs) env = meant g call m scope a env ∷ meant_all g call m scope xs env

  -- The arm of the value's constructor, where the value's type has these arguments.
  pub meant_arms : GenericGlobals → (ℕ → Forms → List Datum → Outcome) → Meant → FormScope → Forms → GenericArms → Datum → Environment
      → Outcome
  meant_arms g call m scope ts (GenericLastArm k xs e) v env =
      choose (is_made_by (place_named g.rows (number_of k)) v)
      (meant g call m (bind_forms xs (forms_named g.rows (place_named g.rows (number_of k)) ts) scope) e (bind xs (parts v) env)) (Gives (whole (pos 0)))
  meant_arms g call m scope ts (GenericNextArm k xs e arms) v env =
      choose (is_made_by (place_named g.rows (number_of k)) v)
      (meant g call m (bind_forms xs (forms_named g.rows (place_named g.rows (number_of k)) ts) scope) e (bind xs (parts v) env))
      (meant_arms g call m scope ts arms v env)

-- The names of parameters, in their order.
abbrev pub generic_names : List GenericParameterTree → List Ident
generic_names qs = map (λ (q : GenericParameterTree). q.name) qs

-- Their types, where type variables stand for these types.
abbrev pub parameter_scope : Meant → List GenericParameterTree → FormScope
parameter_scope m qs = bind_forms (generic_names qs) (map (λ (q : GenericParameterTree). formed m q.ty) qs) []

-- Goes on with a function; where there is none, which typing excludes, the outcome is 0.
abbrev pub of_generic : Option GenericFunctionTree → (GenericFunctionTree → Outcome) → Outcome
of_generic None go = Gives (whole (pos 0))
of_generic (Some f) go = go f

-- What a call means, with so much depth left: with none it is too deep; else the body's meaning with one less.
abbrev pub calls_meant : GenericProgramTree → ℕ → ℕ → Forms → List Datum → Outcome
calls_meant p zero f ts arguments = Stops Deep
calls_meant p (suc n) f ts arguments =
    of_generic (generic_named p.functions f)
    (λ g. meant (globals_of_generic p) (calls_meant p n) (assign g.variables ts) (parameter_scope (assign g.variables ts) g.parameters) g.body
    (bind (generic_names g.parameters) arguments []))

-- What an expression of a program means, with so much depth left, where type variables stand for these types and variables
-- have these types and values.
abbrev pub means_generic : GenericProgramTree → ℕ → Meant → FormScope → Environment → GenericExpression → Outcome
means_generic p n m scope env e = meant (globals_of_generic p) (calls_meant p n) m scope e env

-- What a program means: main's body, with its parameter; main has no type variables.
abbrev pub run_generic : GenericProgramTree → ℕ → Datum → Outcome
run_generic p depth v =
    means_generic p depth (assign [] NoForm) (parameter_scope (assign [] NoForm) (p.main.parameter ∷ []))
    ((number_of p.main.parameter.name, v) ∷ []) p.main.body
