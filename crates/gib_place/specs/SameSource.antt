-- Sources that are the same up to the names of their variables.
use Rattle.std.specs.Prelude.{◌≡◌, ℕ, List, [], ◌∷◌, map}
use Rattle.gib_syntax.specs.declared.tree.Ident.{Ident}
use Rattle.gib_syntax.specs.declared.tree.Parameter.{Parameter}
use Rattle.gib_syntax.specs.Tree.{Expression, Arguments, Arms, Var, Num, Bit, Paren, Op, Call, Make, Let, Par, If, Case, Tuple, LetSeveral, ParSeveral, NoArgument, Argument, LastArm, NextArm, FunctionTree, MainTree, ProgramTree}
use Rattle.gib_place.specs.Renaming.{Renaming}

-- A name, at the same place.
abbrev pub rename_ident : Renaming → Ident → Ident
rename_ident r x = record { name = record { 0 = r x.name.0 }; span = x.span }

-- A variable with its type, by its other name.
abbrev pub rename_parameter : Renaming → Parameter → Parameter
rename_parameter r q = record { name = rename_ident r q.name; ty = q.ty }

abbrev mutual
  -- An expression with other names for its variables. The names of functions and constructors stay.
  pub rename_expression : Renaming → Expression → Expression
  rename_expression r (Var x) = Var (rename_ident r x)
  rename_expression r (Num p n) = Num p n
  rename_expression r (Bit p b) = Bit p b
  rename_expression r (Paren p e) = Paren p (rename_expression r e)
  rename_expression r (Op p f x y) = Op p f (rename_expression r x) (rename_expression r y)
  rename_expression r (Call f xs) = Call f (rename_arguments r xs)
  rename_expression r (Make k xs) = Make k (rename_arguments r xs)
  rename_expression r (Let p x e f) = Let p (rename_ident r x) (rename_expression r e) (rename_expression r f)
  rename_expression r (Par p x d y e f) = Par p (rename_ident r x) (rename_expression r d) (rename_ident r y) (rename_expression r e) (rename_expression r f)
  rename_expression r (If p c d e) = If p (rename_expression r c) (rename_expression r d) (rename_expression r e)
  rename_expression r (Case p x arms) = Case p (rename_ident r x) (rename_arms r arms)
  rename_expression r (Tuple p tys xs) = Tuple p tys (rename_arguments r xs)
  rename_expression r (LetSeveral p qs d e) = LetSeveral p (map (rename_parameter r) qs) (rename_expression r d) (rename_expression r e)
  rename_expression r (ParSeveral p qs d rs e f) =
      ParSeveral p (map (rename_parameter r) qs) (rename_expression r d) (map (rename_parameter r) rs) (rename_expression r e) (rename_expression r f)

  -- Arguments with other names for their variables.
  pub rename_arguments : Renaming → Arguments → Arguments
  rename_arguments r NoArgument = NoArgument
  rename_arguments r (Argument e xs) = Argument (rename_expression r e) (rename_arguments r xs)

  -- Arms with other names for their variables.
  pub rename_arms : Renaming → Arms → Arms
  rename_arms r (LastArm k xs e) = LastArm k (map (rename_ident r) xs) (rename_expression r e)
  rename_arms r (NextArm k xs e arms) = NextArm k (map (rename_ident r) xs) (rename_expression r e) (rename_arms r arms)

-- A function with other names for its variables. Its own name stays.
abbrev pub rename_function : Renaming → FunctionTree → FunctionTree
rename_function r f = record { name = f.name; parameters = map (rename_parameter r) f.parameters; result = f.result; body = rename_expression r f.body }

-- Main with other names for its variables.
abbrev pub rename_main : Renaming → MainTree → MainTree
rename_main r m = record { parameter = rename_parameter r m.parameter; result = m.result; body = rename_expression r m.body }

-- Different variables keep different names.
abbrev pub KeepsApart : Renaming → Type 0
KeepsApart r = (x y : ℕ) → r x ≡ r y → x ≡ y

-- A function is another one up to the names of its variables.
pub record IsSameFunction (f g : FunctionTree) : Type 0 where
  pub renaming : Renaming
  pub apart : KeepsApart renaming
  pub same : g ≡ rename_function renaming f

-- Main is another one up to the names of its variables.
pub record IsSameMain (m n : MainTree) : Type 0 where
  pub renaming : Renaming
  pub apart : KeepsApart renaming
  pub same : n ≡ rename_main renaming m

-- Functions are others, one by one.
abbrev pub AreSameFunctions : List FunctionTree → List FunctionTree → Type 0
AreSameFunctions [] [] = Unit {0}
AreSameFunctions [] (g ∷ gs) = ⊥
AreSameFunctions (f ∷ fs) [] = ⊥
AreSameFunctions (f ∷ fs) (g ∷ gs) = IsSameFunction f g × AreSameFunctions fs gs

-- A program is another one up to the names of variables.
pub record IsSameProgram (p q : ProgramTree) : Type 0 where
  pub datas : q.datas ≡ p.datas
  pub functions : AreSameFunctions p.functions q.functions
  pub main : IsSameMain p.main q.main
