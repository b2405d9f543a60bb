-- Which trees of programs without type parameters the grammar has.
use Rattle.std.specs.Prelude.{◌≡◌, ◌≢◌, ◌<◌, ◌^◌, Bool, true, false, []}
use Rattle.std.specs.List.{AllByRecursion}
use Rattle.gib_syntax.specs.Results.{AreSeveral, AreSides, AreResults}
use Rattle.gib_syntax.specs.Tree.{Expression, Arguments, Arms, Var, Num, Bit, Paren, Op, Call, Make, Let, Par, If, Case, Tuple, LetSeveral, ParSeveral, NoArgument, Argument, LastArm, NextArm, DataTree, FunctionTree, ProgramTree}

-- What may stand as a side of an operation.
abbrev pub is_application : Expression → Bool
is_application (Var x) = true
is_application (Num p n) = true
is_application (Bit p b) = true
is_application (Paren p e) = true
is_application (Op p f a b) = true
is_application (Call f xs) = true
is_application (Make k xs) = true
is_application (Let p x a b) = false
is_application (Par p x a y b c) = false
is_application (If p a b c) = false
is_application (Case p x arms) = false
is_application (Tuple p ts xs) = false
is_application (LetSeveral p qs a b) = false
is_application (ParSeveral p qs a rs b c) = false

-- What may stand as an argument: an application without arguments.
abbrev pub is_atom : Expression → Bool
is_atom (Call f xs) = false
is_atom (Make k (Argument a xs)) = false
is_atom e = is_application e

-- The trees that the grammar has: literals run to 2^63 - 1 (so a reader of tokens refuses a greater number
-- where it stands), arguments are atoms, a call has an argument at least, the sides of an operation
-- are applications, a tuple has two parts at least, and parts have two names at least.
abbrev mutual
  pub IsFine : Expression → Type 0
  IsFine (Var x) = Unit {0}
  IsFine (Num p n) = n < 2 ^ 63
  IsFine (Bit p b) = Unit {0}
  IsFine (Paren p e) = IsFine e
  IsFine (Op p f a b) = IsFine a × IsFine b × (is_application a ≡ true) × (is_application b ≡ true)
  IsFine (Call f NoArgument) = ⊥
  IsFine (Call f (Argument a xs)) = IsFine a × (is_atom a ≡ true) × AreFine xs
  IsFine (Make k xs) = AreFine xs
  IsFine (Let p x a b) = IsFine a × IsFine b
  IsFine (Par p x a y b c) = IsFine a × IsFine b × IsFine c
  IsFine (If p a b c) = IsFine a × IsFine b × IsFine c
  IsFine (Case p x arms) = HasFine arms
  IsFine (Tuple p ts NoArgument) = ⊥
  IsFine (Tuple p ts (Argument a NoArgument)) = ⊥
  IsFine (Tuple p ts (Argument a (Argument b xs))) = IsFine a × AreParts (Argument b xs)
  IsFine (LetSeveral p qs a b) = AreSeveral qs × IsFine a × IsFine b
  IsFine (ParSeveral p qs a rs b c) = AreSides qs rs × IsFine a × IsFine b × IsFine c

  -- Further parts of a tuple.
  pub AreParts : Arguments → Type 0
  AreParts NoArgument = Unit {0}
  AreParts (Argument a xs) = IsFine a × AreParts xs

  -- The arguments are trees of the grammar, and atoms.
  pub AreFine : Arguments → Type 0
  AreFine NoArgument = Unit {0}
  AreFine (Argument a xs) = IsFine a × (is_atom a ≡ true) × AreFine xs

  -- The arms' bodies are trees of the grammar.
  pub HasFine : Arms → Type 0
  HasFine (LastArm k xs e) = IsFine e
  HasFine (NextArm k xs e arms) = IsFine e × HasFine arms

-- A data declaration has a constructor at least.
abbrev pub HasConstructor : DataTree → Type 0
HasConstructor d = d.constructors ≢ []

-- A function has a parameter at least, its body is an expression that the grammar has, and it gives one thing or two parts at least.
abbrev pub IsFineFunction : FunctionTree → Type 0
IsFineFunction f = (f.parameters ≢ []) × IsFine f.body × AreResults f.result

-- The grammar has the program: its data declarations, its functions, and main's body.
pub record IsFineProgram (p : ProgramTree) : Type 0 where
  pub datas : AllByRecursion HasConstructor p.datas
  pub functions : AllByRecursion IsFineFunction p.functions
  pub main : IsFine p.main.body
