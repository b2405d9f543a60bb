-- A program without type parameters as a plain one: type arguments, of which it has none, are left out.
use Rattle.std.specs.Prelude.{◌≡◌, ℕ, ◌<◌, ◌≤◌, false, List, [], ◌∷◌, ◌++◌, map, length}
use Rattle.std.specs.List.{AllByRecursion}
use Rattle.gib_syntax.specs.declared.exprs.Node.{Node}
use Rattle.gib_syntax.specs.declared.exprs.Node.TheVariants as n
use Rattle.gib_syntax.specs.declared.generic.GenericNode.{GenericNode}
use Rattle.gib_syntax.specs.declared.generic.GenericNode.TheVariants as g
use Rattle.gib_syntax.specs.declared.program.GenericData.{GenericData}
use Rattle.gib_syntax.specs.declared.program.GenericFunction.{GenericFunction}
use Rattle.gib_syntax.specs.declared.tree.Ident.{Ident}
use Rattle.gib_syntax.specs.declared.tree.Parameter.{Parameter}
use Rattle.gib_syntax.specs.declared.tree.TypeName.{TypeName}
use Rattle.gib_syntax.specs.declared.tree.TypeName.TheVariants as ty
use Rattle.gib_syntax.specs.declared.written.ResultRuns.{ResultRuns}
use Rattle.gib_syntax.specs.declared.written.ResultRuns.TheVariants as result
use Rattle.gib_syntax.specs.Arena.{tree_of}
use Rattle.gib_syntax.specs.Declarations.{number_of}
use Rattle.gib_syntax.specs.GenericArena.{Arena, tree_of as generic_of}
use Rattle.gib_syntax.specs.Tree.{Expression, Arguments, Arms, Var, Num, Bit, Paren, Op, Call, Make, If, Case, Tuple, NoArgument, Argument, LastArm, NextArm, ConstructorTree, DataTree, FunctionTree, MainTree, ProgramTree}
use Rattle.gib_syntax.specs.Results.{map_results}
pub use Rattle.gib_syntax.specs.Single.{IsOne, IsSingle, AreSingle, HasSingle, IsSingleFunction}
use Rattle.gib_syntax.specs.Forms.{WrittenType, WholeAt, TruthAt, VariableAt, DataAt, NoForm}
use Rattle.gib_syntax.specs.GenericTree.{GenericExpression, GenericArguments, GenericArms, GenericVar, GenericNum, GenericBit, GenericParen, GenericOp, GenericCall, GenericMake, GenericLet, GenericPar, GenericIf, GenericCase, GenericTuple, GenericNoArgument, GenericArgument, GenericLastArm, GenericNextArm, GenericConstructorTree, GenericDataTree, GenericParameterTree, GenericFunctionTree, GenericMainTree, GenericProgramTree}
use Rattle.gib_mono.specs.Bindings.{only_name, let_of, par_of}
use Rattle.gib_mono.specs.Copied.{Item}
use Rattle.gib_mono.specs.Declaring.{own_entry}
use Rattle.gib_mono.specs.Naming.{entry}

-- No declaration has type variables.
abbrev pub IsPlainData : GenericDataTree → Type 0
IsPlainData d = d.variables ≡ []

-- A function has no type variables.
abbrev pub IsPlainFunction : GenericFunctionTree → Type 0
IsPlainFunction f = f.variables ≡ []

-- No declaration of the program has type variables, and it has no results of several parts.
pub record IsPlainProgram (p : GenericProgramTree) : Type 0 where
  pub datas : AllByRecursion IsPlainData p.datas
  pub functions : AllByRecursion IsPlainFunction p.functions
  pub singles : AllByRecursion IsSingleFunction p.functions
  pub main : IsSingle p.main.body

-- A written type by its name alone, where it is written; `Int` for a type variable, which typing excludes.
abbrev pub bare_written : WrittenType → TypeName
bare_written (WholeAt p) = ty.Whole p
bare_written (TruthAt p) = ty.Truth p
bare_written (VariableAt x) = ty.Whole x.span
bare_written (DataAt p x ws) = ty.Declared (record { name = x.name; span = p })

abbrev mutual
  -- An expression without type arguments.
  pub bare : GenericExpression → Expression
  bare (GenericVar x) = Var x
  bare (GenericNum p n) = Num p n
  bare (GenericBit p b) = Bit p b
  bare (GenericParen p e) = Paren p (bare e)
  bare (GenericOp p f a b) = Op p f (bare a) (bare b)
  bare (GenericCall f ws xs) = Call f (all_bare xs)
  bare (GenericMake k ws xs) = Make k (all_bare xs)
  bare (GenericLet p xs a b) = let_of p (only_name xs) [] (bare a) (bare b)
  bare (GenericPar p xs a ys b c) = par_of p (only_name xs) [] (bare a) (only_name ys) [] (bare b) (bare c)
  bare (GenericIf p a b c) = If p (bare a) (bare b) (bare c)
  bare (GenericCase p x arms) = Case p x (arms_bare arms)
  bare (GenericTuple p xs) = Tuple p [] (all_bare xs)

  -- So for arguments.
  pub all_bare : GenericArguments → Arguments
  all_bare GenericNoArgument = NoArgument
  all_bare (GenericArgument a xs) = Argument (bare a) (all_bare xs)

  -- So for arms.
  pub arms_bare : GenericArms → Arms
  arms_bare (GenericLastArm k xs e) = LastArm k xs (bare e)
  arms_bare (GenericNextArm k xs e arms) = NextArm k xs (bare e) (arms_bare arms)

-- Declarations.
abbrev pub bare_constructor : GenericConstructorTree → ConstructorTree
bare_constructor c = record { name = c.name; fields = map bare_written c.fields }

-- A data declaration by the names of its types.
abbrev pub bare_data : GenericDataTree → DataTree
bare_data d = record { name = d.name; constructors = map bare_constructor d.constructors }

-- A parameter.
abbrev pub bare_parameter : GenericParameterTree → Parameter
bare_parameter q = record { name = q.name; ty = bare_written q.ty }

-- A function.
abbrev pub bare_function : GenericFunctionTree → FunctionTree
bare_function f = record { name = f.name; parameters = map bare_parameter f.parameters; result = map_results bare_written f.result; body = bare f.body }

-- Main.
abbrev pub bare_main : GenericMainTree → MainTree
bare_main f = record { parameter = bare_parameter f.parameter; result = bare_written f.result; body = bare f.body }

-- The program.
abbrev pub bare_program : GenericProgramTree → ProgramTree
bare_program p = record { datas = map bare_data p.datas; functions = map bare_function p.functions; main = bare_main p.main }

-- A node has no parts, and no names for them.
abbrev pub IsSingleNode : GenericNode → Type 0
IsSingleNode (g.Variable x) = Unit {0}
IsSingleNode (g.Whole p v) = Unit {0}
IsSingleNode (g.Truth p b) = Unit {0}
IsSingleNode (g.Paren p a) = Unit {0}
IsSingleNode (g.Operation p f a b) = Unit {0}
IsSingleNode (g.Call f ws xs) = Unit {0}
IsSingleNode (g.Make k ws xs) = Unit {0}
IsSingleNode (g.Let p xs a b) = IsOne xs
IsSingleNode (g.LetPar p l r b) = IsOne l.names × IsOne r.names
IsSingleNode (g.If p a b c) = Unit {0}
IsSingleNode (g.Case p x arms) = Unit {0}
IsSingleNode (g.Tuple p xs) = ⊥

-- No expression has parts.
abbrev pub AreSingleTrees : Arena → Type 0
AreSingleTrees a = (i : ℕ) → i < length a.nodes → IsSingle (generic_of a i)

-- A function gives one thing.
abbrev pub GivesOne : ResultRuns → Type 0
GivesOne (result.One run) = Unit {0}
GivesOne (result.Several runs) = ⊥

-- The name of a binding that has one; of a binding without a name it is not asked.
abbrev pub one_name : List Ident → Ident
one_name [] = record { name = record { 0 = 0 }; span = record { start = 0; end = 0 } }
one_name (x ∷ xs) = x

-- A node without its type arguments: its parts keep their numbers. Of a node with several parts it is not asked.
abbrev pub bare_node : GenericNode → Node
bare_node (g.Variable x) = n.Variable x
bare_node (g.Whole p v) = n.Whole p v
bare_node (g.Truth p b) = n.Truth p b
bare_node (g.Paren p a) = n.Paren p a
bare_node (g.Operation p f a b) = n.Operation p f a b
bare_node (g.Call f ws xs) = n.Call f xs
bare_node (g.Make k ws xs) = n.Make k xs
bare_node (g.Let p xs a b) = n.Let p (one_name xs) a b
bare_node (g.LetPar p l r b) = n.LetPar p (one_name l.names) l.value (one_name r.names) r.value b
bare_node (g.If p a b c) = n.If p a b c
bare_node (g.Case p x arms) = n.Case p x arms
bare_node (g.Tuple p xs) = n.Truth p false

-- The expression of a number without its type arguments.
abbrev pub bare_tree : Arena → ℕ → Expression
bare_tree a i = bare (generic_of a i)

-- The first so many expressions stand without type arguments at their numbers.
pub record AreBare (a : Arena) (count : ℕ) (nodes : List Node) : Type 0 where
  pub many : count ≤ length nodes
  pub trees : (i : ℕ) → i < count → tree_of nodes i ≡ bare_tree a i

-- A declaration as the code keeps it has no type variables.
abbrev pub IsPlainKept : GenericData → Type 0
IsPlainKept d = d.variables.items ≡ []

-- A function as the code keeps it has none, and gives one thing.
abbrev pub IsPlainHere : GenericFunction → Type 0
IsPlainHere f = (f.variables.items ≡ []) × GivesOne f.result

-- The names that a type brings, with those of its constructors, where it has no type variables.
abbrev pub data_names : GenericData → List Item
data_names d = entry (number_of d.name) NoForm ∷ map (own_entry NoForm) d.constructors.items

-- Those of all types, in their order.
abbrev pub datas_names : List GenericData → List Item
datas_names [] = []
datas_names (d ∷ ds) = data_names d ++ datas_names ds

-- Those of functions.
abbrev pub function_names : List GenericFunction → List Item
function_names fs = map (λ (f : GenericFunction). entry (number_of f.name) NoForm) fs
