-- Nodes that name each other by their numbers, seen as trees.
use Rattle.std.specs.Prelude.{◌≡◌, ℕ, ◌<◌, ◌≤◌, ◌^◌, List, [], ◌∷◌, length, Option, Some, None}
use Rattle.std.specs.List.{AllByRecursion}
use Rattle.gib_nodes.specs.Nodes as arena
use Rattle.gib_syntax.specs.declared.exprs.ExprId.{ExprId}
use Rattle.gib_syntax.specs.declared.exprs.Arm.{Arm}
use Rattle.gib_syntax.specs.declared.exprs.Node.{Node}
use Rattle.gib_syntax.specs.declared.exprs.Node.TheVariants as n
use Rattle.gib_syntax.specs.Tree.{Expression, Arguments, Arms, Var, Num, Bit, Paren, Op, Call, Make, Let, Par, If, Case, Tuple, LetSeveral, ParSeveral, NoArgument, Argument, LastArm, NextArm}

-- The expression of an arm has a smaller number.
abbrev pub IsArmBelow : ℕ → Arm → Type 0
IsArmBelow id arm = arm.body.0 < id

-- A case has an arm at least.
abbrev pub ArmsBelow : List Arm → ℕ → Type 0
ArmsBelow [] id = ⊥
ArmsBelow (arm ∷ arms) id = IsArmBelow id arm × AllByRecursion (IsArmBelow id) arms

-- The parts of a node have smaller numbers; a literal is at most 2^63 - 1.
abbrev pub PartsBelow : Node → ℕ → Type 0
PartsBelow (n.Variable x) id = Unit {0}
PartsBelow (n.Whole p v) id = v < 2 ^ 63
PartsBelow (n.Truth p b) id = Unit {0}
PartsBelow (n.Paren p a) id = a.0 < id
PartsBelow (n.Operation p f a b) id = (a.0 < id) × (b.0 < id)
PartsBelow (n.Call f xs) id = AllByRecursion (λ (a : ExprId). a.0 < id) xs.items
PartsBelow (n.Make k xs) id = AllByRecursion (λ (a : ExprId). a.0 < id) xs.items
PartsBelow (n.Let p x a b) id = (a.0 < id) × (b.0 < id)
PartsBelow (n.LetPar p x a y b c) id = (a.0 < id) × (b.0 < id) × (c.0 < id)
PartsBelow (n.If p a b c) id = (a.0 < id) × (b.0 < id) × (c.0 < id)
PartsBelow (n.Case p x arms) id = ArmsBelow arms.items id
PartsBelow (n.Tuple p ts xs) id = AllByRecursion (λ (a : ExprId). a.0 < id) xs.items
PartsBelow (n.LetSeveral p qs a b) id = (a.0 < id) × (b.0 < id)
PartsBelow (n.ParSeveral p qs a rs b c) id = (a.0 < id) × (b.0 < id) × (c.0 < id)

-- Arguments as a tree, where their numbers have these trees.
abbrev pub arguments_from : (ℕ → Expression) → List ExprId → Arguments
arguments_from f [] = NoArgument
arguments_from f (i ∷ is) = Argument (f i.0) (arguments_from f is)

-- Arms, one at least, as a tree, where the numbers of their expressions have these trees.
abbrev pub arms_from : (ℕ → Expression) → Arm → List Arm → Arms
arms_from f arm [] = LastArm arm.constructor arm.variables.items (f arm.body.0)
arms_from f arm (next ∷ arms) = NextArm arm.constructor arm.variables.items (f arm.body.0) (arms_from f next arms)

-- The tree of no node.
abbrev pub nothing : Expression
nothing = Bit (record { start = 0; end = 0 }) Rattle.std.specs.Prelude.false

-- A case of these arms; of no arm, the tree of no node.
abbrev pub case_from : (ℕ → Expression) → List Arm → (Arms → Expression) → Expression
case_from f [] make = nothing
case_from f (arm ∷ arms) make = make (arms_from f arm arms)

-- A node as a tree, where its parts are these trees.
abbrev pub layer : (ℕ → Expression) → Option Node → Expression
layer f None = nothing
layer f (Some (n.Variable x)) = Var x
layer f (Some (n.Whole p v)) = Num p v
layer f (Some (n.Truth p b)) = Bit p b
layer f (Some (n.Paren p a)) = Paren p (f a.0)
layer f (Some (n.Operation p g a b)) = Op p g (f a.0) (f b.0)
layer f (Some (n.Call g xs)) = Call g (arguments_from f xs.items)
layer f (Some (n.Make k xs)) = Make k (arguments_from f xs.items)
layer f (Some (n.Let p x a b)) = Let p x (f a.0) (f b.0)
layer f (Some (n.LetPar p x a y b c)) = Par p x (f a.0) y (f b.0) (f c.0)
layer f (Some (n.If p a b c)) = If p (f a.0) (f b.0) (f c.0)
layer f (Some (n.Case p x arms)) = case_from f arms.items (Case p x)
layer f (Some (n.Tuple p ts xs)) = Tuple p ts.items (arguments_from f xs.items)
layer f (Some (n.LetSeveral p qs a b)) = LetSeveral p qs.items (f a.0) (f b.0)
layer f (Some (n.ParSeveral p qs a rs b c)) = ParSeveral p qs.items (f a.0) rs.items (f b.0) (f c.0)

-- The tree of the node of a number.
unfoldable pub tree_of : List Node → ℕ → Expression
tree_of nodes id = arena.tree_of nothing layer nodes id

-- What a node tells of the tree of its number: its layer over the trees of its parts, which have
-- smaller numbers.
abbrev pub Opens : List Node → ℕ → Node → Type 0
Opens nodes id node = (tree_of nodes id ≡ layer (tree_of nodes) (Some node)) × PartsBelow node id

-- The trees that were there stay.
pub record Grows (old new : List Node) : Type 0 where
  pub longer : length old ≤ length new
  pub same : (id : ℕ) → id < length old → tree_of new id ≡ tree_of old id

-- A node was put at a number.
pub record Makes (old new : List Node) (id : ℕ) (node : Node) : Type 0 where
  pub grows : Grows old new
  pub inside : id < length new
  pub tree : tree_of new id ≡ layer (tree_of old) (Some node)
