-- Programs in which each function and each expression gives one thing.
use Rattle.std.specs.Prelude.{◌≡◌, List, [], ◌∷◌}
use Rattle.std.specs.List.{AllByRecursion}
use Rattle.gib_base.specs.declared.token.Sign.TheVariants as s
use Rattle.gib_base.specs.declared.token.Token.{Token}
use Rattle.gib_base.specs.declared.token.Token.TheVariants as t
use Rattle.gib_syntax.specs.declared.tree.Ident.{Ident}
use Rattle.gib_syntax.specs.Results.{One}
use Rattle.gib_syntax.specs.Forms.{WrittenType}
use Rattle.gib_syntax.specs.GenericTree.{GenericExpression, GenericArguments, GenericArms, GenericVar, GenericNum, GenericBit, GenericParen, GenericOp, GenericCall, GenericMake, GenericLet, GenericPar, GenericIf, GenericCase, GenericTuple, GenericNoArgument, GenericArgument, GenericLastArm, GenericNextArm, GenericFunctionTree, GenericProgramTree}

-- There is one name.
abbrev pub IsOne : List Ident → Type 0
IsOne xs = (x : Ident) × (xs ≡ x ∷ [])

-- The expression has no tuples, and no binding of several names.
abbrev mutual
  pub IsSingle : GenericExpression → Type 0
  IsSingle (GenericVar x) = Unit {0}
  IsSingle (GenericNum p n) = Unit {0}
  IsSingle (GenericBit p b) = Unit {0}
  IsSingle (GenericParen p e) = IsSingle e
  IsSingle (GenericOp p f a b) = IsSingle a × IsSingle b
  IsSingle (GenericCall f ws xs) = AreSingle xs
  IsSingle (GenericMake k ws xs) = AreSingle xs
  IsSingle (GenericLet p xs a b) = IsOne xs × IsSingle a × IsSingle b
  IsSingle (GenericPar p xs a ys b c) = IsOne xs × IsOne ys × IsSingle a × IsSingle b × IsSingle c
  IsSingle (GenericIf p a b c) = IsSingle a × IsSingle b × IsSingle c
  IsSingle (GenericCase p x arms) = HasSingle arms
  IsSingle (GenericTuple p xs) = ⊥

  -- Arguments or parts have none.
  pub AreSingle : GenericArguments → Type 0
  AreSingle GenericNoArgument = Unit {0}
  AreSingle (GenericArgument a xs) = IsSingle a × AreSingle xs

  -- The expressions of arms have none.
  pub HasSingle : GenericArms → Type 0
  HasSingle (GenericLastArm k xs e) = IsSingle e
  HasSingle (GenericNextArm k xs e arms) = IsSingle e × HasSingle arms

-- A function gives one thing, and so does each expression of its body.
abbrev pub IsSingleFunction : GenericFunctionTree → Type 0
IsSingleFunction f = ((w : WrittenType) × (f.result ≡ One w)) × IsSingle f.body

-- So do all of a program.
pub record IsSingleProgram (p : GenericProgramTree) : Type 0 where
  pub functions : AllByRecursion IsSingleFunction p.functions
  pub main : IsSingle p.main.body

-- None of the tokens is a comma.
abbrev pub HasNoComma : List Token → Type 0
HasNoComma [] = Unit {0}
HasNoComma (t.Sign s.Comma ∷ ts) = ⊥
HasNoComma (x ∷ ts) = HasNoComma ts
