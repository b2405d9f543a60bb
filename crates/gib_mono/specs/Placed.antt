-- A program whose parts have their types where they stand: a tuple's types at the tuple, a variable's type at the variable.
use Rattle.std.specs.Prelude.{map}
use Rattle.gib_base.specs.declared.Span.{Span}
use Rattle.gib_syntax.specs.declared.tree.TypeName.{TypeName}
use Rattle.gib_syntax.specs.declared.tree.TypeName.TheVariants as ty
use Rattle.gib_syntax.specs.declared.tree.Parameter.{Parameter}
use Rattle.gib_syntax.specs.Tree.{Expression, Arguments, Arms, Var, Num, Bit, Paren, Op, Call, Make, Let, Par, If, Case, Tuple, LetSeveral, ParSeveral, NoArgument, Argument, LastArm, NextArm, FunctionTree, ProgramTree}
use Rattle.gib_syntax.specs.Typing.{names_of}
use Rattle.gib_mono.specs.Bindings.{only_name, let_of, par_of}

-- A type's name at a place.
abbrev pub written_at : Span → TypeName → TypeName
written_at p (ty.Whole q) = ty.Whole p
written_at p (ty.Truth q) = ty.Truth p
written_at p (ty.Declared x) = ty.Declared (record { name = x.name; span = p })

-- A variable whose type stands where it does.
abbrev pub placed_variable : Parameter → Parameter
placed_variable q = record { name = q.name; ty = written_at q.name.span q.ty }

abbrev mutual
  -- An expression with the types of parts where these stand; a binding of one name has none.
  pub placed : Expression → Expression
  placed (Var x) = Var x
  placed (Num p n) = Num p n
  placed (Bit p b) = Bit p b
  placed (Paren p e) = Paren p (placed e)
  placed (Op p f a b) = Op p f (placed a) (placed b)
  placed (Call f xs) = Call f (all_placed xs)
  placed (Make k xs) = Make k (all_placed xs)
  placed (Let p x a b) = Let p x (placed a) (placed b)
  placed (Par p x a y b c) = Par p x (placed a) y (placed b) (placed c)
  placed (If p a b c) = If p (placed a) (placed b) (placed c)
  placed (Case p x arms) = Case p x (arms_placed arms)
  placed (Tuple p as' xs) = Tuple p (map (written_at p) as') (all_placed xs)
  placed (LetSeveral p qs a b) = let_of p (only_name (names_of qs)) (map placed_variable qs) (placed a) (placed b)
  placed (ParSeveral p qs a rs b c) =
      par_of p (only_name (names_of qs)) (map placed_variable qs) (placed a) (only_name (names_of rs)) (map placed_variable rs) (placed b) (placed c)

  -- So for arguments.
  pub all_placed : Arguments → Arguments
  all_placed NoArgument = NoArgument
  all_placed (Argument a xs) = Argument (placed a) (all_placed xs)

  -- So for arms.
  pub arms_placed : Arms → Arms
  arms_placed (LastArm k xs e) = LastArm k xs (placed e)
  arms_placed (NextArm k xs e arms) = NextArm k xs (placed e) (arms_placed arms)

-- A function with such a body.
abbrev pub placed_function : FunctionTree → FunctionTree
placed_function f = record { name = f.name; parameters = f.parameters; result = f.result; body = placed f.body }

-- A program with such bodies.
abbrev pub placed_program : ProgramTree → ProgramTree
placed_program p = record {
  datas = p.datas;
  functions = map placed_function p.functions;
  main = record { parameter = p.main.parameter; result = p.main.result; body = placed p.main.body };
}
