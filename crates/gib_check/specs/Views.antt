-- The parts of a program without type parameters, as the definitions see them.
use Rattle.std.specs.Prelude.{◌≡◌, ℕ, List, map}
use Rattle.gib_types.specs.Table.{Row, Table}
use Rattle.gib_syntax.specs.declared.tree.FunctionDecl.{FunctionDecl}
use Rattle.gib_syntax.specs.Tree.{Expression, DataTree, FunctionTree}
use Rattle.gib_syntax.specs.Arena.{tree_of}
use Rattle.gib_syntax.specs.Parts.{Parts, function_tree, program_of}
use Rattle.gib_syntax.specs.Declarations.{number_of, type_names, table_of_program, constructor_names}
use Rattle.gib_syntax.specs.Typing.{Globals, globals_of}
use Rattle.gib_check.specs.declared.functions.FunctionHead.{FunctionHead}
use Rattle.gib_check.specs.Functions.{head_of, head_in}

-- The table of a program's types and constructors.
abbrev pub table_in : Parts → Table
table_in parts = table_of_program (program_of parts)

-- The names of a program's declared types.
abbrev pub types_in : Parts → List ℕ
types_in parts = type_names (program_of parts)

-- What the bodies of a program may name besides their variables.
abbrev pub globals_in : Parts → Globals
globals_in parts = globals_of (program_of parts)

-- The functions of a program, as trees.
abbrev pub functions_in : Parts → List FunctionTree
functions_in parts = (program_of parts).functions

-- The tree of an expression of a program.
abbrev pub tree_in : Parts → ℕ → Expression
tree_in parts id = tree_of parts.exprs id

-- The number of a function's name.
abbrev pub function_name : FunctionDecl → ℕ
function_name d = number_of d.name

-- The number of a declared type's name.
abbrev pub tree_number : DataTree → ℕ
tree_number d = number_of d.name

-- The number of a constructor's name.
abbrev pub row_name : Row → ℕ
row_name row = row.name

-- A function of a program, as a tree.
abbrev pub function_in : Parts → FunctionDecl → FunctionTree
function_in parts d = function_tree (tree_of parts.exprs) d

-- What stands beside a program while it is checked: the table of its types, the names of its types,
-- constructors and functions, and the heads of its functions.
pub record IsDeclared (parts : Parts) (table : Table) (types constructors functions : List ℕ) (heads : List FunctionHead) : Type 0 where
  pub is_table : table ≡ table_in parts
  pub are_types : types ≡ types_in parts
  pub are_constructors : constructors ≡ constructor_names (table_in parts)
  pub are_functions : functions ≡ map function_name parts.functions
  pub are_heads : map head_of heads ≡ map (head_in (types_in parts)) parts.functions
