-- A program as the code keeps it, and the tree that it is.
use Rattle.std.specs.Prelude.{ℕ, ◌<◌, List, map, length}
use Rattle.std.specs.List.{AllByRecursion}
use Rattle.gib_syntax.specs.declared.exprs.Node.{Node}
use Rattle.gib_syntax.specs.declared.tree.ConstructorDecl.{ConstructorDecl}
use Rattle.gib_syntax.specs.declared.tree.DataDecl.{DataDecl}
use Rattle.gib_syntax.specs.declared.tree.FunctionDecl.{FunctionDecl}
use Rattle.gib_syntax.specs.declared.tree.MainDecl.{MainDecl}
use Rattle.gib_syntax.specs.declared.tree.TypeName.{TypeName}
use Rattle.gib_syntax.specs.declared.tree.ResultTypes.{ResultTypes}
use Rattle.gib_syntax.specs.declared.tree.ResultTypes.TheVariants as result
use Rattle.gib_syntax.specs.Results.{Results, One, Several}
use Rattle.gib_syntax.specs.Tree.{Expression, ConstructorTree, DataTree, FunctionTree, MainTree, ProgramTree}
use Rattle.gib_syntax.specs.Arena.{tree_of}
use Rattle.gib_syntax.specs.Fine.{HasConstructor}

-- The expressions of all bodies, and the declarations.
pub record Parts : Type 0 where
  pub exprs : List Node
  pub data_decls : List DataDecl
  pub functions : List FunctionDecl
  pub main : MainDecl

-- A constructor of a data declaration, as a tree.
abbrev pub constructor_tree : ConstructorDecl → ConstructorTree
constructor_tree c = record { name = c.name; fields = c.fields.items }

-- A data declaration, as a tree.
abbrev pub data_tree : DataDecl → DataTree
data_tree d = record { name = d.name; constructors = map constructor_tree d.constructors.items }

-- The body of a function is one of so many expressions.
abbrev pub IsFunctionInside : ℕ → FunctionDecl → Type 0
IsFunctionInside n f = f.body.0 < n

-- Each body is one of the expressions, and each data declaration has a constructor.
pub record AreInside (parts : Parts) : Type 0 where
  pub functions : AllByRecursion (IsFunctionInside (length parts.exprs)) parts.functions
  pub main : parts.main.body.0 < length parts.exprs
  pub constructors : AllByRecursion HasConstructor (map data_tree parts.data_decls)

-- What a function gives, as a tree.
abbrev pub results_tree : ResultTypes → Results TypeName
results_tree (result.One a) = One a
results_tree (result.Several as') = Several as'.items

-- A function as a tree, where expressions have these trees.
abbrev pub function_tree : (ℕ → Expression) → FunctionDecl → FunctionTree
function_tree f d = record { name = d.name; parameters = d.parameters.items; result = results_tree d.result; body = f d.body.0 }

-- Main as a tree, where expressions have these trees.
abbrev pub main_tree : (ℕ → Expression) → MainDecl → MainTree
main_tree f m = record { parameter = m.parameter; result = m.result; body = f m.body.0 }

-- The tree of a program.
abbrev pub program_of : Parts → ProgramTree
program_of parts = record {
  datas = map data_tree parts.data_decls;
  functions = map (function_tree (tree_of parts.exprs)) parts.functions;
  main = main_tree (tree_of parts.exprs) parts.main;
}
