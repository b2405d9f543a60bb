-- A program without type parameters as one that may have some.
use Rattle.std.specs.Prelude.{[], ◌∷◌, map}
use Rattle.gib_syntax.specs.declared.tree.TypeName.{TypeName}
use Rattle.gib_syntax.specs.declared.tree.TypeName.TheVariants as ty
use Rattle.gib_syntax.specs.declared.tree.Parameter.{Parameter}
use Rattle.gib_syntax.specs.Tree.{Expression, Arguments, Arms, Var, Num, Bit, Paren, Op, Call, Make, Let, Par, If, Case, Tuple, LetSeveral, ParSeveral, NoArgument, Argument, LastArm, NextArm, ConstructorTree, DataTree, FunctionTree, MainTree, ProgramTree}
use Rattle.gib_syntax.specs.Results.{map_results}
use Rattle.gib_syntax.specs.Typing.{names_of}
use Rattle.gib_syntax.specs.Forms.{WrittenType, WholeAt, TruthAt, DataAt, NoType}
use Rattle.gib_syntax.specs.GenericTree.{GenericExpression, GenericArguments, GenericArms, GenericVar, GenericNum, GenericBit, GenericParen, GenericOp, GenericCall, GenericMake, GenericLet, GenericPar, GenericIf, GenericCase, GenericTuple, GenericNoArgument, GenericArgument, GenericLastArm, GenericNextArm, GenericConstructorTree, GenericDataTree, GenericParameterTree, GenericFunctionTree, GenericMainTree, GenericProgramTree}

-- A type as it may be written; one without type parameters has no arguments.
abbrev pub written_of : TypeName → WrittenType
written_of (ty.Whole p) = WholeAt p
written_of (ty.Truth p) = TruthAt p
written_of (ty.Declared x) = DataAt x.span x NoType

abbrev mutual
  pub as_generic : Expression → GenericExpression
  as_generic (Var x) = GenericVar x
  as_generic (Num p n) = GenericNum p n
  as_generic (Bit p b) = GenericBit p b
  as_generic (Paren p e) = GenericParen p (as_generic e)
  as_generic (Op p f a b) = GenericOp p f (as_generic a) (as_generic b)
  as_generic (Call f xs) = GenericCall f NoType (all_as_generic xs)
  as_generic (Make k xs) = GenericMake k NoType (all_as_generic xs)
  as_generic (Let p x a b) = GenericLet p (x ∷ []) (as_generic a) (as_generic b)
  as_generic (Par p x a y b c) = GenericPar p (x ∷ []) (as_generic a) (y ∷ []) (as_generic b) (as_generic c)
  as_generic (If p a b c) = GenericIf p (as_generic a) (as_generic b) (as_generic c)
  as_generic (Case p x arms) = GenericCase p x (arms_as_generic arms)
  as_generic (Tuple p as' xs) = GenericTuple p (all_as_generic xs)
  as_generic (LetSeveral p qs a b) = GenericLet p (names_of qs) (as_generic a) (as_generic b)
  as_generic (ParSeveral p qs a rs b c) = GenericPar p (names_of qs) (as_generic a) (names_of rs) (as_generic b) (as_generic c)

  pub all_as_generic : Arguments → GenericArguments
  all_as_generic NoArgument = GenericNoArgument
  all_as_generic (Argument a xs) = GenericArgument (as_generic a) (all_as_generic xs)

  pub arms_as_generic : Arms → GenericArms
  arms_as_generic (LastArm k xs e) = GenericLastArm k xs (as_generic e)
  arms_as_generic (NextArm k xs e arms) = GenericNextArm k xs (as_generic e) (arms_as_generic arms)

-- A constructor, its fields of written types.
abbrev pub generic_constructor : ConstructorTree → GenericConstructorTree
generic_constructor c = record { name = c.name; fields = map written_of c.fields }

-- A data type that has no variables.
abbrev pub generic_data : DataTree → GenericDataTree
generic_data d = record { name = d.name; variables = []; constructors = map generic_constructor d.constructors }

-- A parameter of a written type.
abbrev pub generic_parameter : Parameter → GenericParameterTree
generic_parameter q = record { name = q.name; ty = written_of q.ty }

-- A function that has no variables.
abbrev pub generic_function : FunctionTree → GenericFunctionTree
generic_function f =
    record { name = f.name; variables = []; parameters = map generic_parameter f.parameters; result = map_results written_of f.result; body = as_generic f.body }

-- The main function; it never has variables.
abbrev pub generic_main : MainTree → GenericMainTree
generic_main f = record { parameter = generic_parameter f.parameter; result = written_of f.result; body = as_generic f.body }

-- A whole program, nothing in it with variables.
abbrev pub generic_of : ProgramTree → GenericProgramTree
generic_of p = record { datas = map generic_data p.datas; functions = map generic_function p.functions; main = generic_main p.main }
