-- A core as the code keeps it, and the core that it is.
use Rattle.std.specs.Prelude.{ℕ, ◌<◌, Bool, List, [], ◌∷◌, map, length}
use Rattle.std.specs.List.{AllByRecursion}
use Rattle.gib_types.specs.declared.table.ConId.{ConId}
use Rattle.gib_types.specs.declared.table.Ty.{Ty}
use Rattle.gib_types.specs.Row.{Table}
use Rattle.gib_types.specs.Table.{IsTyBelow}
use Rattle.gib_core.specs.declared.node.Node.{Node}
use Rattle.gib_core.specs.declared.program.CoreFunction.{CoreFunction}
use Rattle.gib_core.specs.declared.program.CoreMain.{CoreMain}
use Rattle.gib_core.specs.declared.program.CoreResult.{CoreResult}
use Rattle.gib_core.specs.declared.program.CoreResult.TheVariants as given
use Rattle.gib_syntax.specs.Results as results
use Rattle.gib_syntax.specs.Results.{Results}
use Rattle.gib_core.specs.Tree.{Term, FunctionTerm, MainTerm, CoreTree}
use Rattle.gib_core.specs.PartTypes.{types_in}
use Rattle.gib_core.specs.Arena.{term_of}

-- The table, the terms of all bodies, the functions, main, the constructors with offsets, and whether ends are told.
pub record Parts : Type 0 where
  pub table : Table
  pub terms : List Node
  pub functions : List CoreFunction
  pub main : CoreMain
  pub offsets : List ConId
  pub marked : Bool

-- The body of a function is one of so many terms.
abbrev pub IsFunctionInside : ℕ → CoreFunction → Type 0
IsFunctionInside n f = f.body.0 < n

-- What a function gives is of a declared type, or of declared types.
abbrev pub IsResultDeclared : ℕ → Results Ty → Type 0
IsResultDeclared n (results.One t) = IsTyBelow n t
IsResultDeclared n (results.Several ts) = AllByRecursion (IsTyBelow n) ts

-- The types of parameters and of a result are declared, where there are so many.
abbrev pub AreDeclared : ℕ → List Ty → Results Ty → Type 0
AreDeclared n parameters result = AllByRecursion (IsTyBelow n) parameters × IsResultDeclared n result

-- What a function of the code gives.
abbrev pub results_of : CoreResult → Results Ty
results_of (given.One t) = results.One t
results_of (given.Several ts) = results.Several (types_in ts)

-- The types of a function are declared.
abbrev pub IsDeclared : ℕ → CoreFunction → Type 0
IsDeclared n f = AreDeclared n f.parameters.items (results_of f.result)

-- Each body is one of the terms, and the types of functions and of main are declared.
pub record AreInside (parts : Parts) : Type 0 where
  pub functions : AllByRecursion (IsFunctionInside (length parts.terms)) parts.functions
  pub main : parts.main.body.0 < length parts.terms
  pub types : AllByRecursion (IsDeclared (length parts.table.types)) parts.functions
  pub main_types : AreDeclared (length parts.table.types) (parts.main.parameter ∷ []) (results.One parts.main.result)

-- A function, where numbers have these terms.
abbrev pub function_term : (ℕ → Term) → CoreFunction → FunctionTerm
function_term f d = record { name = d.name; parameters = d.parameters.items; result = results_of d.result; body = f d.body.0 }

-- Main, where numbers have these terms.
abbrev pub main_term : (ℕ → Term) → CoreMain → MainTerm
main_term f m = record { parameter = m.parameter; result = m.result; body = f m.body.0 }

-- The core that parts are.
abbrev pub core_of : Parts → CoreTree
core_of parts = record {
  table = parts.table;
  functions = map (function_term (term_of parts.terms)) parts.functions;
  main = main_term (term_of parts.terms) parts.main;
  offsets = parts.offsets;
  marked = parts.marked;
}
