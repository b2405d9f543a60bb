-- Which trees the grammar has.
use Rattle.std.specs.Prelude.{◌≡◌, ◌≢◌, ◌<◌, ◌^◌, Bool, true, false, []}
use Rattle.std.specs.List.{AllByRecursion}
use Rattle.gib_syntax.specs.Results.{AreResults}
use Rattle.gib_syntax.specs.GenericTree.{GenericExpression, GenericArguments, GenericArms, GenericVar, GenericNum, GenericBit, GenericParen, GenericOp, GenericCall, GenericMake, GenericLet, GenericPar, GenericIf, GenericCase, GenericTuple, GenericNoArgument, GenericArgument, GenericLastArm, GenericNextArm, GenericDataTree, GenericFunctionTree, GenericProgramTree}

-- What may stand as a side of an operation.
abbrev pub is_generic_application : GenericExpression → Bool
is_generic_application (GenericVar x) = true
is_generic_application (GenericNum p n) = true
is_generic_application (GenericBit p b) = true
is_generic_application (GenericParen p e) = true
is_generic_application (GenericOp p f a b) = true
is_generic_application (GenericCall f ws xs) = true
is_generic_application (GenericMake k ws xs) = true
is_generic_application (GenericLet p xs a b) = false
is_generic_application (GenericPar p xs a ys b c) = false
is_generic_application (GenericIf p a b c) = false
is_generic_application (GenericCase p x arms) = false
is_generic_application (GenericTuple p xs) = false

-- What may stand as an argument: an application without arguments.
abbrev pub is_generic_atom : GenericExpression → Bool
is_generic_atom (GenericCall f ws xs) = false
is_generic_atom (GenericMake k ws (GenericArgument a xs)) = false
is_generic_atom e = is_generic_application e

-- The trees that the grammar has: literals run to 2^63 - 1, arguments are atoms, a call has an argument at least, the
-- sides of an operation are applications, a tuple has two parts at least, and a binding has a name at least.
abbrev mutual
  pub IsGenericFine : GenericExpression → Type 0
  IsGenericFine (GenericVar x) = Unit {0}
  IsGenericFine (GenericNum p n) = n < 2 ^ 63
  IsGenericFine (GenericBit p b) = Unit {0}
  IsGenericFine (GenericParen p e) = IsGenericFine e
  IsGenericFine (GenericOp p f a b) = IsGenericFine a × IsGenericFine b × (is_generic_application a ≡ true) × (is_generic_application b ≡ true)
  IsGenericFine (GenericCall f ws GenericNoArgument) = ⊥
  IsGenericFine (GenericCall f ws (GenericArgument a xs)) = IsGenericFine a × (is_generic_atom a ≡ true) × AreGenericFine xs
  IsGenericFine (GenericMake k ws xs) = AreGenericFine xs
  IsGenericFine (GenericLet p xs a b) = (xs ≢ []) × IsGenericFine a × IsGenericFine b
  IsGenericFine (GenericPar p xs a ys b c) = (xs ≢ []) × (ys ≢ []) × IsGenericFine a × IsGenericFine b × IsGenericFine c
  IsGenericFine (GenericIf p a b c) = IsGenericFine a × IsGenericFine b × IsGenericFine c
  IsGenericFine (GenericCase p x arms) = HasGenericFine arms
  IsGenericFine (GenericTuple p GenericNoArgument) = ⊥
  IsGenericFine (GenericTuple p (GenericArgument a GenericNoArgument)) = ⊥
  IsGenericFine (GenericTuple p (GenericArgument a (GenericArgument b xs))) = IsGenericFine a × AreGenericParts (GenericArgument b xs)

  -- Further parts of a tuple.
  pub AreGenericParts : GenericArguments → Type 0
  AreGenericParts GenericNoArgument = Unit {0}
  AreGenericParts (GenericArgument a xs) = IsGenericFine a × AreGenericParts xs

  pub AreGenericFine : GenericArguments → Type 0
  AreGenericFine GenericNoArgument = Unit {0}
  AreGenericFine (GenericArgument a xs) = IsGenericFine a × (is_generic_atom a ≡ true) × AreGenericFine xs

  pub HasGenericFine : GenericArms → Type 0
  HasGenericFine (GenericLastArm k xs e) = IsGenericFine e
  HasGenericFine (GenericNextArm k xs e arms) = IsGenericFine e × HasGenericFine arms

-- A data declaration has a constructor at least.
abbrev pub HasGenericConstructor : GenericDataTree → Type 0
HasGenericConstructor d = d.constructors ≢ []

-- A function has a parameter at least, its body is an expression that the grammar has, and it gives one thing or two parts at least.
abbrev pub IsGenericFineFunction : GenericFunctionTree → Type 0
IsGenericFineFunction f = (f.parameters ≢ []) × IsGenericFine f.body × AreResults f.result

-- The grammar has the program.
pub record IsGenericFineProgram (p : GenericProgramTree) : Type 0 where
  pub datas : AllByRecursion HasGenericConstructor p.datas
  pub functions : AllByRecursion IsGenericFineFunction p.functions
  pub main : IsGenericFine p.main.body
