-- A small program whose core is a sample.
use Rattle.std.specs.Prelude.{ℕ, List, [], ◌∷◌}
use Rattle.gib_base.specs.declared.Span.{Span}
use Rattle.gib_syntax.specs.declared.tree.Ident.{Ident}
use Rattle.gib_types.specs.declared.operator.Operator.TheVariants.{Add}
use Rattle.gib_syntax.specs.declared.tree.Parameter.{Parameter}
use Rattle.gib_syntax.specs.declared.tree.TypeName.{TypeName}
use Rattle.gib_syntax.specs.declared.tree.TypeName.TheVariants.{Whole, Declared}
use Rattle.gib_syntax.specs.Results as results
use Rattle.gib_syntax.specs.Tree.{Expression, Var, Num, Op, Call, Make, Case, Tuple, LetSeveral, ParSeveral, Arguments, NoArgument, Argument, LastArm, NextArm, DataTree, ProgramTree}

-- The place of each token.
abbrev nowhere : Span
nowhere = record { start = 0; end = 0 }

-- The name of a number.
abbrev name : ℕ → Ident
name n = record { name = record { 0 = n }; span = nowhere }

-- `Int`.
abbrev number : TypeName
number = Whole nowhere

-- `Tree`.
abbrev tree : TypeName
tree = Declared (name 0)

-- Those of a tree and of a number.
abbrev pair_types : List TypeName
pair_types = tree ∷ number ∷ []

-- One argument.
abbrev one : Expression → Arguments
one x = Argument x NoArgument

-- Two arguments.
abbrev two : Expression → Expression → Arguments
two x y = Argument x (one y)

-- A leaf of a number.
abbrev leaf : Expression → Expression
leaf x = Make (name 3) (one x)

-- A node of two trees.
abbrev node : Expression → Expression → Expression
node x y = Make (name 4) (two x y)

-- A sum.
abbrev add : Expression → Expression → Expression
add x y = Op nowhere Add x y

-- What `split` gives for a variable.
abbrev split : ℕ → Expression
split x = Call (name 9) (one (Var (name x)))

-- A variable with its type.
abbrev parameter : ℕ → TypeName → Parameter
parameter x ty = record { name = name x; ty = ty }

-- A tree and a number, each with its name.
abbrev pair : ℕ → ℕ → List Parameter
pair x y = parameter x tree ∷ parameter y number ∷ []

-- The declarations of `Tree`, `Empty` and `Triple`.
abbrev datas : List DataTree
datas = record { name = name 0; constructors = record { name = name 3; fields = number ∷ [] } ∷ record { name = name 4; fields = tree ∷ tree ∷ [] } ∷ [] }
    ∷ record { name = name 1; constructors = record { name = name 5; fields = [] } ∷ [] }
    ∷ record { name = name 2; constructors = record { name = name 6; fields = tree ∷ tree ∷ tree ∷ [] } ∷ [] } ∷ []

-- `fun split (t : Tree) : (Tree, Int) = case t of { Leaf n -> (Leaf (n + 1), n) ; Node l r -> let par (a, x) = split l and (b, y) = split r in
-- (Node a b, (x + y)) }` and `main (t : Tree) : Tree = let (u, s) = split t in Node u (Leaf s)`.
abbrev pub summing : ProgramTree
summing =
    let summed_leaf = Tuple nowhere pair_types (two (leaf (add (Var (name 11)) (Num nowhere 1))) (Var (name 11))) in
    let summed_node = ParSeveral nowhere (pair 14 15) (split 12) (pair 16 17) (split 13) (Tuple nowhere pair_types (two (node (Var (name 14)) (Var (name 16))) (add (Var (name 15)) (Var (name 17))))) in
    record {
      datas = datas;
      functions = record {
        name = name 9;
        parameters = parameter 10 tree ∷ [];
        result = results.Several pair_types;
        body = Case nowhere (name 10) (NextArm (name 3) (name 11 ∷ []) summed_leaf (LastArm (name 4) (name 12 ∷ name 13 ∷ []) summed_node));
      } ∷ [];
      main = record {
        parameter = parameter 10 tree;
        result = tree;
        body = LetSeveral nowhere (pair 18 19) (split 10) (node (Var (name 18)) (leaf (Var (name 19))));
      };
    }
