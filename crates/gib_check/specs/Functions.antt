-- Functions by their numbers.
use Rattle.std.specs.Prelude.{◌≡◌, ℕ, ◌<◌, List, map, length, slice_get}
use Rattle.gib_types.specs.declared.table.Ty.{Ty}
use Rattle.gib_types.specs.Table.{Table}
use Rattle.gib_syntax.specs.declared.tree.Parameter.{Parameter}
use Rattle.gib_syntax.specs.declared.tree.FunctionDecl.{FunctionDecl}
use Rattle.gib_syntax.specs.Tree.{FunctionTree}
use Rattle.gib_syntax.specs.Declarations.{type_of_name, function_named}
use Rattle.gib_syntax.specs.Results.{map_results}
use Rattle.gib_syntax.specs.Parts.{results_tree}
use Rattle.gib_syntax.specs.Typing.{parameter_types, one_type, result_type}
use Rattle.gib_check.specs.declared.functions.FunctionHead.{FunctionHead}

-- The function of this number is the one of the name.
pub record IsNumberOf (functions : List FunctionTree) (name id : ℕ) : Type 0 where
  pub within : id < length functions
  pub is : slice_get functions id ≡ function_named functions name

-- A head has the types of the function's parameters, and of its result.
pub record IsHeadOf (table : Table) (function : FunctionTree) (head : FunctionHead) : Type 0 where
  pub parameters : head.parameters.items ≡ parameter_types table function
  pub result : head.result ≡ result_type table function

-- Types of parameters and of a result.
pub record Head : Type 0 where
  pub parameters : List Ty
  pub result : Ty

-- A head without where it lies in memory.
abbrev pub head_of : FunctionHead → Head
head_of h = record { parameters = h.parameters.items; result = h.result }

-- The type of a parameter, where the declared types have these names.
abbrev pub parameter_type : List ℕ → Parameter → Ty
parameter_type types q = type_of_name types q.ty

-- The head of a function, where the declared types have these names.
abbrev pub head_in : List ℕ → FunctionDecl → Head
head_in types d = record { parameters = map (parameter_type types) d.parameters.items; result = one_type (map_results (type_of_name types) (results_tree d.result)) }
