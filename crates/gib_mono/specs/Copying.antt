-- The copy of a program without type parameters.
use Rattle.std.specs.Prelude.{◌≡◌, ℕ, List, [], ◌∷◌, map}
use Rattle.gib_base.specs.declared.Span.{Span}
use Rattle.gib_types.specs.Form.{form_or}
use Rattle.gib_types.specs.declared.table.Ty.{Ty}
use Rattle.gib_types.specs.declared.table.Ty.TheVariants.{Whole, Truth}
use Rattle.gib_syntax.specs.declared.tree.Ident.{Ident}
use Rattle.gib_syntax.specs.declared.tree.TypeName.{TypeName}
use Rattle.gib_syntax.specs.declared.tree.TypeName.TheVariants as ty
use Rattle.gib_syntax.specs.declared.tree.Parameter.{Parameter}
use Rattle.gib_syntax.specs.Tree.{Expression, Arguments, Arms, Var, Num, Bit, Paren, Op, Call, Make, If, Case, Tuple, NoArgument, Argument, LastArm, NextArm, ConstructorTree, DataTree, FunctionTree, MainTree}
use Rattle.gib_syntax.specs.Declarations.{number_of, place_of, tree_type, type_or}
use Rattle.gib_syntax.specs.Forms.{WrittenType, written_place, Form, Forms, WholeForm, TruthForm, VariableForm, DataForm, NoForm, Meant, formed, formed_all, assign}
use Rattle.gib_syntax.specs.GenericTree.{GenericExpression, GenericArguments, GenericArms, GenericVar, GenericNum, GenericBit, GenericParen, GenericOp, GenericCall, GenericMake, GenericLet, GenericPar, GenericIf, GenericCase, GenericTuple, GenericNoArgument, GenericArgument, GenericLastArm, GenericNextArm, GenericConstructorTree, GenericDataTree, GenericParameterTree, GenericFunctionTree, GenericMainTree, GenericGlobals, place_named}
use Rattle.gib_syntax.specs.Results.{map_results}
use Rattle.gib_syntax.specs.GenericTyping.{FormScope, form_in}
pub use Rattle.gib_syntax.specs.Inferred.{arguments_of, forms_at, forms_named, owner_at_row, owner_named, bind_forms, results_at, one_form, results_of, forms_of_all, results_of_arms, form_of, bound_forms}
pub use Rattle.gib_syntax.specs.GenericMeaning.{parameter_scope}
use Rattle.gib_mono.specs.Bindings.{only_name, let_of, par_of}

-- The numbers of the names of copies: of a type, a constructor, a function, each with a list of types. With no types it is the
-- name's own number.
pub record Naming : Type 0 where
  pub types : ℕ → Forms → ℕ
  pub constructors : ℕ → Forms → ℕ
  pub functions : ℕ → Forms → ℕ

-- A name without types is its own number.
pub record IsPlainNaming (nm : Naming) : Type 0 where
  pub types : (x : ℕ) → nm.types x NoForm ≡ x
  pub constructors : (x : ℕ) → nm.constructors x NoForm ≡ x
  pub functions : (x : ℕ) → nm.functions x NoForm ≡ x

-- A name at its place, with another number.
abbrev pub renamed : Ident → ℕ → Ident
renamed x n = record { name = record { 0 = n }; span = x.span }

-- A type without variables, as the copy writes it.
abbrev pub name_of_form : Naming → Span → Form → TypeName
name_of_form nm p WholeForm = ty.Whole p
name_of_form nm p TruthForm = ty.Truth p
name_of_form nm p (VariableForm x) = ty.Whole p
name_of_form nm p (DataForm t ts) = ty.Declared (record { name = record { 0 = nm.types t ts }; span = p })

-- A written type in the copy, where type variables stand for these types.
abbrev pub copy_written : Naming → Meant → WrittenType → TypeName
copy_written nm m w = name_of_form nm (written_place w) (formed m w)

-- A type of the copy's table, where the declared types have these names.
abbrev pub plain_type : Naming → List ℕ → Form → Ty
plain_type nm types WholeForm = Whole
plain_type nm types TruthForm = Truth
plain_type nm types (VariableForm x) = Whole
plain_type nm types (DataForm t ts) = type_or (tree_type (place_of types (nm.types t ts)))

-- A variable for a part, with the type of its copy; there is a type for each in a typed program.
abbrev pub copy_variables : Naming → List Ident → List Form → List Parameter
copy_variables nm [] ts = []
copy_variables nm (x ∷ xs) [] = record { name = x; ty = ty.Whole x.span } ∷ copy_variables nm xs []
copy_variables nm (x ∷ xs) (t ∷ ts) = record { name = x; ty = name_of_form nm x.span t } ∷ copy_variables nm xs ts

abbrev mutual
  -- The copy of an expression, where type variables stand for these types and variables have these types. An arm's constructor
  -- is the copy at the arguments of the type of the case's variable. The parts of a tuple have types in the copy, and so do the
  -- variables of a binding of several names.
  pub copy : GenericGlobals → Naming → Meant → FormScope → GenericExpression → Expression
  copy g nm m scope (GenericVar x) = Var x
  copy g nm m scope (GenericNum p n) = Num p n
  copy g nm m scope (GenericBit p b) = Bit p b
  copy g nm m scope (GenericParen p e) = Paren p (copy g nm m scope e)
  copy g nm m scope (GenericOp p f a b) = Op p f (copy g nm m scope a) (copy g nm m scope b)
  copy g nm m scope (GenericCall f ws xs) = Call (renamed f (nm.functions (number_of f) (formed_all m ws))) (copy_all g nm m scope xs)
  copy g nm m scope (GenericMake k ws xs) = Make (renamed k (nm.constructors (number_of k) (formed_all m ws))) (copy_all g nm m scope xs)
  copy g nm m scope (GenericLet p xs a b) =
      let_of p (only_name xs) (copy_variables nm xs (bound_forms g m scope a)) (copy g nm m scope a) (copy g nm m (bind_forms xs (bound_forms g m scope a) scope) b)
  copy g nm m scope (GenericPar p xs a ys b c) =
      par_of p (only_name xs) (copy_variables nm xs (bound_forms g m scope a)) (copy g nm m scope a) (only_name ys) (copy_variables nm ys (bound_forms g m scope b))
      (copy g nm m scope b) (copy g nm m (bind_forms ys (bound_forms g m scope b) (bind_forms xs (bound_forms g m scope a) scope)) c)
  copy g nm m scope (GenericIf p a b c) = If p (copy g nm m scope a) (copy g nm m scope b) (copy g nm m scope c)
  copy g nm m scope (GenericCase p x arms) = Case p x (copy_arms g nm m scope (arguments_of (form_or (form_in scope (number_of x)))) arms)
  copy g nm m scope (GenericTuple p xs) = Tuple p (map (name_of_form nm p) (forms_of_all g m scope xs)) (copy_all g nm m scope xs)

  -- The copies of arguments.
  pub copy_all : GenericGlobals → Naming → Meant → FormScope → GenericArguments → Arguments
  copy_all g nm m scope GenericNoArgument = NoArgument
  copy_all g nm m scope (GenericArgument a xs) = Argument (copy g nm m scope a) (copy_all g nm m scope xs)

  -- The copies of arms, whose constructors have these type arguments.
  pub copy_arms : GenericGlobals → Naming → Meant → FormScope → Forms → GenericArms → Arms
  copy_arms g nm m scope ts (GenericLastArm k xs e) =
      LastArm (renamed k (nm.constructors (number_of k) ts)) xs (copy g nm m (bind_forms xs (forms_named g.rows (place_named g.rows (number_of k)) ts) scope) e)
  copy_arms g nm m scope ts (GenericNextArm k xs e arms) =
      NextArm (renamed k (nm.constructors (number_of k) ts)) xs (copy g nm m (bind_forms xs (forms_named g.rows (place_named g.rows (number_of k)) ts) scope) e) (copy_arms g nm m scope ts arms)

-- The copy of a constructor.
abbrev pub copy_constructor : Naming → Meant → Forms → GenericConstructorTree → ConstructorTree
copy_constructor nm m ts c = record { name = renamed c.name (nm.constructors (number_of c.name) ts); fields = map (copy_written nm m) c.fields }

-- The copy of a data declaration at these types.
abbrev pub copy_data : Naming → GenericDataTree → Forms → DataTree
copy_data nm d ts = record { name = renamed d.name (nm.types (number_of d.name) ts); constructors = map (copy_constructor nm (assign d.variables ts) ts) d.constructors }

-- The copy of a parameter.
abbrev pub copy_parameter : Naming → Meant → GenericParameterTree → Parameter
copy_parameter nm m q = record { name = q.name; ty = copy_written nm m q.ty }

-- The copy of a function at these types.
abbrev pub copy_function : GenericGlobals → Naming → GenericFunctionTree → Forms → FunctionTree
copy_function g nm f ts = record {
  name = renamed f.name (nm.functions (number_of f.name) ts);
  parameters = map (copy_parameter nm (assign f.variables ts)) f.parameters;
  result = map_results (copy_written nm (assign f.variables ts)) f.result;
  body = copy g nm (assign f.variables ts) (parameter_scope (assign f.variables ts) f.parameters) f.body;
}

-- Main's copy.
abbrev pub copy_main : GenericGlobals → Naming → GenericMainTree → MainTree
copy_main g nm f = record {
  parameter = copy_parameter nm (assign [] NoForm) f.parameter;
  result = copy_written nm (assign [] NoForm) f.result;
  body = copy g nm (assign [] NoForm) (parameter_scope (assign [] NoForm) (f.parameter ∷ [])) f.body;
}
