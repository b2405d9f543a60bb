-- The types of expressions, where type variables stand for these types and variables have these types. Of an expression that is
-- not typed nothing is said: it is then `Int`, or no parts.
use Rattle.std.specs.Prelude.{ℕ, List, [], ◌∷◌, slice_get, Option, Some, None}
use Rattle.gib_types.specs.Form.{form_or}
use Rattle.gib_syntax.specs.declared.tree.Ident.{Ident}
use Rattle.gib_syntax.specs.Results.{Results, One, Several, list_results}
use Rattle.gib_syntax.specs.Declarations.{number_of}
use Rattle.gib_syntax.specs.Forms.{Form, Forms, WholeForm, TruthForm, VariableForm, DataForm, NoForm, Meant, formed_all}
use Rattle.gib_syntax.specs.GenericTree.{GenericExpression, GenericArguments, GenericArms, GenericVar, GenericNum, GenericBit, GenericParen, GenericOp, GenericCall, GenericMake, GenericLet, GenericPar, GenericIf, GenericCase, GenericTuple, GenericNoArgument, GenericArgument, GenericLastArm, GenericNextArm, GenericFunctionTree, GenericRow, GenericGlobals, place_named, generic_named}
pub use Rattle.gib_syntax.specs.GenericTyping.{one_form}
use Rattle.gib_syntax.specs.GenericTyping.{FormScope, form_in, form_bound, operator_form, field_forms, result_forms}

-- The arguments of a declared type.
abbrev pub arguments_of : Form → Forms
arguments_of WholeForm = NoForm
arguments_of TruthForm = NoForm
arguments_of (VariableForm x) = NoForm
arguments_of (DataForm t ts) = ts

-- The types of the fields of the constructor of a number.
abbrev pub forms_at : Option GenericRow → Forms → List Form
forms_at None ts = []
forms_at (Some row) ts = field_forms row ts

-- The types of the fields of the constructor of a name.
abbrev pub forms_named : List GenericRow → Option ℕ → Forms → List Form
forms_named rows None ts = []
forms_named rows (Some c) ts = forms_at (slice_get rows c) ts

-- The type's name of a constructor.
abbrev pub owner_at_row : Option GenericRow → ℕ
owner_at_row None = 0
owner_at_row (Some row) = row.owner

-- The type's name of the constructor of a name.
abbrev pub owner_named : List GenericRow → Option ℕ → ℕ
owner_named rows None = 0
owner_named rows (Some c) = owner_at_row (slice_get rows c)

-- Variables for fields, or for parts.
abbrev pub bind_forms : List Ident → List Form → FormScope → FormScope
bind_forms [] ts scope = scope
bind_forms (x ∷ xs) [] scope = scope
bind_forms (x ∷ xs) (t ∷ ts) scope = bind_forms xs ts (form_bound x t scope)

-- The type of a function's result, or those of the parts.
abbrev pub results_at : Option GenericFunctionTree → Forms → Results Form
results_at None ts = One WholeForm
results_at (Some h) ts = result_forms h ts

abbrev mutual
  -- The type of an expression, or those of its parts.
  pub results_of : GenericGlobals → Meant → FormScope → GenericExpression → Results Form
  results_of g m scope (GenericVar x) = One (form_or (form_in scope (number_of x)))
  results_of g m scope (GenericNum p n) = One WholeForm
  results_of g m scope (GenericBit p b) = One TruthForm
  results_of g m scope (GenericParen p e) = results_of g m scope e
  results_of g m scope (GenericOp p f a b) = One (operator_form f)
  results_of g m scope (GenericCall f ws xs) = results_at (generic_named g.functions (number_of f)) (formed_all m ws)
  results_of g m scope (GenericMake k ws xs) = One (DataForm (owner_named g.rows (place_named g.rows (number_of k))) (formed_all m ws))
  results_of g m scope (GenericLet p xs a b) = results_of g m (bind_forms xs (list_results (results_of g m scope a)) scope) b
  results_of g m scope (GenericPar p xs a ys b c) =
      results_of g m (bind_forms ys (list_results (results_of g m scope b)) (bind_forms xs (list_results (results_of g m scope a)) scope)) c
  results_of g m scope (GenericIf p a b c) = results_of g m scope b
  results_of g m scope (GenericCase p x arms) = results_of_arms g m scope (arguments_of (form_or (form_in scope (number_of x)))) arms
  results_of g m scope (GenericTuple p xs) = Several (forms_of_all g m scope xs)

  -- The types of parts or arguments.
  pub forms_of_all : GenericGlobals → Meant → FormScope → GenericArguments → List Form
  forms_of_all g m scope GenericNoArgument = []
  forms_of_all g m scope (GenericArgument a xs) = one_form (results_of g m scope a) ∷ forms_of_all g m scope xs

  -- Those of the first arm, where the type of the variable has these arguments.
  pub results_of_arms : GenericGlobals → Meant → FormScope → Forms → GenericArms → Results Form
  results_of_arms g m scope ts (GenericLastArm k xs e) = results_of g m (bind_forms xs (forms_named g.rows (place_named g.rows (number_of k)) ts) scope) e
  results_of_arms g m scope ts (GenericNextArm k xs e arms) = results_of g m (bind_forms xs (forms_named g.rows (place_named g.rows (number_of k)) ts) scope) e

-- The type of an expression that gives one thing.
abbrev pub form_of : GenericGlobals → Meant → FormScope → GenericExpression → Form
form_of g m scope e = one_form (results_of g m scope e)

-- The types of the variables of a binding to an expression.
abbrev pub bound_forms : GenericGlobals → Meant → FormScope → GenericExpression → List Form
bound_forms g m scope e = list_results (results_of g m scope e)
