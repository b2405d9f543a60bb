-- A program with type parameters as the code keeps it, and the tree that it is.
use Rattle.std.specs.Prelude.{◌<◌, List, map, length}
use Rattle.std.specs.List.{AllByRecursion}
use Rattle.gib_syntax.specs.declared.written.Word.{Word}
use Rattle.gib_syntax.specs.declared.written.ResultRuns.{ResultRuns}
use Rattle.gib_syntax.specs.declared.written.ResultRuns.TheVariants as result
use Rattle.gib_syntax.specs.Results.{Results, One, Several}
use Rattle.gib_syntax.specs.Forms.{WrittenType}
use Rattle.gib_syntax.specs.declared.program.GenericParameter.{GenericParameter}
use Rattle.gib_syntax.specs.declared.program.GenericConstructor.{GenericConstructor}
use Rattle.gib_syntax.specs.declared.program.GenericData.{GenericData}
use Rattle.gib_syntax.specs.declared.program.GenericFunction.{GenericFunction}
use Rattle.gib_syntax.specs.declared.program.GenericMain.{GenericMain}
use Rattle.gib_syntax.specs.Words.{IsTypesRun, IsTypeRun, type_in, stack_of, run_words}
use Rattle.gib_syntax.specs.GenericArena.{Arena, tree_of}
use Rattle.gib_syntax.specs.GenericFine.{HasGenericConstructor}
use Rattle.gib_syntax.specs.GenericTree.{GenericConstructorTree, GenericDataTree, GenericParameterTree, GenericFunctionTree, GenericMainTree, GenericProgramTree}

-- The expressions of all bodies with the words of all types, and the declarations.
pub record GenericParts : Type 0 where
  pub exprs : Arena
  pub datas : List GenericData
  pub functions : List GenericFunction
  pub main : GenericMain

-- A constructor, as a tree, where these are the words.
abbrev pub constructor_in : List Word → GenericConstructor → GenericConstructorTree
constructor_in words c = record { name = c.name; fields = stack_of (run_words words c.fields) }

-- A data declaration, as a tree.
abbrev pub data_in : List Word → GenericData → GenericDataTree
data_in words d = record { name = d.name; variables = d.variables.items; constructors = map (constructor_in words) d.constructors.items }

-- A parameter, as a tree.
abbrev pub parameter_in : List Word → GenericParameter → GenericParameterTree
parameter_in words q = record { name = q.name; ty = type_in words q.ty }

-- What a function gives, as a tree.
abbrev pub results_in : List Word → ResultRuns → Results WrittenType
results_in words (result.One run) = One (type_in words run)
results_in words (result.Several runs) = Several (map (type_in words) runs.items)

-- A function, as a tree.
abbrev pub function_in : Arena → GenericFunction → GenericFunctionTree
function_in a f = record {
  name = f.name;
  variables = f.variables.items;
  parameters = map (parameter_in a.words) f.parameters.items;
  result = results_in a.words f.result;
  body = tree_of a f.body.0;
}

-- Main, as a tree.
abbrev pub main_in : Arena → GenericMain → GenericMainTree
main_in a f = record { parameter = parameter_in a.words f.parameter; result = type_in a.words f.result; body = tree_of a f.body.0 }

-- The tree of a program.
abbrev pub generic_program_of : GenericParts → GenericProgramTree
generic_program_of p = record { datas = map (data_in p.exprs.words) p.datas; functions = map (function_in p.exprs) p.functions; main = main_in p.exprs p.main }

-- The types of a constructor's fields are among these words.
abbrev pub IsConstructorInside : List Word → GenericConstructor → Type 0
IsConstructorInside words c = IsTypesRun words c.fields

-- The types of a data declaration are.
abbrev pub IsDataInside : List Word → GenericData → Type 0
IsDataInside words d = AllByRecursion (IsConstructorInside words) d.constructors.items

-- The type of a parameter is.
abbrev pub IsParameterInside : List Word → GenericParameter → Type 0
IsParameterInside words q = IsTypeRun words q.ty

-- What a function gives is.
abbrev pub AreResultsInside : List Word → ResultRuns → Type 0
AreResultsInside words (result.One run) = IsTypeRun words run
AreResultsInside words (result.Several runs) = AllByRecursion (IsTypeRun words) runs.items

-- The types of a function are among the words, and its body is one of its expressions.
abbrev pub IsFunctionInside : Arena → GenericFunction → Type 0
IsFunctionInside a f = AllByRecursion (IsParameterInside a.words) f.parameters.items × AreResultsInside a.words f.result × (f.body.0 < length a.nodes)

-- Each type is among the words, each body is one of its expressions, and each data declaration has a constructor.
pub record AreInside (p : GenericParts) : Type 0 where
  pub datas : AllByRecursion (IsDataInside p.exprs.words) p.datas
  pub constructors : AllByRecursion HasGenericConstructor (map (data_in p.exprs.words) p.datas)
  pub functions : AllByRecursion (IsFunctionInside p.exprs) p.functions
  pub parameter : IsParameterInside p.exprs.words p.main.parameter
  pub result : IsTypeRun p.exprs.words p.main.result
  pub main : p.main.body.0 < length p.exprs.nodes
