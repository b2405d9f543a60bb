-- A program with type parameters, and where its names are declared.
use Rattle.std.specs.Prelude.{◌≡◌, ℕ, ◌+◌, List, [], ◌∷◌, ◌++◌, map, length, slice_get, Option, Some, None}
use Rattle.gib_syntax.specs.declared.tree.Ident.{Ident}
use Rattle.gib_syntax.specs.declared.written.Word.{Word}
use Rattle.gib_syntax.specs.declared.program.GenericConstructor.{GenericConstructor}
use Rattle.gib_syntax.specs.declared.program.GenericData.{GenericData}
use Rattle.gib_syntax.specs.Declarations.{number_of}
use Rattle.gib_syntax.specs.Words.{run_words, stack_of}
use Rattle.gib_syntax.specs.GenericArena.{tree_of}
use Rattle.gib_syntax.specs.GenericParts.{GenericParts, generic_program_of}
use Rattle.gib_syntax.specs.GenericTree.{GenericExpression, GenericDataTree, GenericFunctionTree, GenericRow, GenericGlobals, globals_of_generic}
use Rattle.gib_check.specs.declared.named.RowDecl.{RowDecl}

-- What bodies may name.
abbrev pub generic_globals : GenericParts → GenericGlobals
generic_globals parts = globals_of_generic (generic_program_of parts)

-- The tree of an expression.
abbrev pub generic_tree : GenericParts → ℕ → GenericExpression
generic_tree parts id = tree_of parts.exprs id

-- The number of a declared type's name, of a constructor's, of a function's.
abbrev pub data_number : GenericDataTree → ℕ
data_number d = number_of d.name

-- The number of the name of a constructor.
abbrev pub row_number : GenericRow → ℕ
row_number row = row.name

-- The number of the name of a function.
abbrev pub function_number : GenericFunctionTree → ℕ
function_number f = number_of f.name

-- The type variables of the declaration of a place, none where there is no such declaration.
abbrev pub variables_or : Option GenericData → List Ident
variables_or None = []
variables_or (Some d) = d.variables.items

-- The type variables of the declaration of a place, none past the end.
abbrev pub variables_at : List GenericData → ℕ → List Ident
variables_at ds i = variables_or (slice_get ds i)

-- A constructor as it is kept: with its type's name, its declaration's place, and how many fields it has.
abbrev pub row_decl : List Word → ℕ → GenericData → GenericConstructor → RowDecl
row_decl words i d c = record {
  name = c.name.name;
  owner = d.name.name;
  declaration = i;
  fields = c.fields;
  count = length (stack_of (run_words words c.fields));
}

-- All constructors of declarations that are numbered from a number on.
abbrev pub all_rows : List Word → ℕ → List GenericData → List RowDecl
all_rows words i [] = []
all_rows words i (d ∷ ds) = map (row_decl words i d) d.constructors.items ++ all_rows words (i + 1) ds

-- What is kept, as a constructor with its type.
abbrev pub row_in : GenericParts → RowDecl → GenericRow
row_in parts r = record {
  name = r.name.0;
  owner = r.owner.0;
  variables = variables_at parts.datas r.declaration;
  fields = stack_of (run_words parts.exprs.words r.fields);
}

-- A constructor that may not be there.
abbrev pub row_option : GenericParts → Option RowDecl → Option GenericRow
row_option parts None = None
row_option parts (Some r) = Some (row_in parts r)

-- How many type variables a declared type has, where there is such a type.
abbrev pub arity_of : Option GenericDataTree → Option ℕ
arity_of None = None
arity_of (Some d) = Some (length d.variables)

-- The names of a kept constructor.
abbrev pub kept_name : RowDecl → ℕ
kept_name r = r.name.0

-- Places of names: of the types, of the constructors, of the functions.
pub record IsNamed (parts : GenericParts) (types constructors functions : List ℕ) (rows : List RowDecl) : Type 0 where
  pub types_are : types ≡ map data_number (generic_globals parts).datas
  pub constructors_are : constructors ≡ map kept_name rows
  pub functions_are : functions ≡ map function_number (generic_globals parts).functions
  pub rows_are : rows ≡ all_rows parts.exprs.words 0 parts.datas

-- How many fields a kept constructor has.
abbrev pub count_of : Option RowDecl → ℕ
count_of None = 0
count_of (Some r) = r.count
