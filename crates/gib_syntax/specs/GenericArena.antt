-- Nodes that name each other by their numbers, with the words of the types that are written in them, seen as trees.
use Rattle.std.specs.Prelude.{◌≡◌, ℕ, ◌<◌, ◌≤◌, ◌^◌, List, [], ◌∷◌, length, Option, Some, None, slice_get}
use Rattle.std.specs.List.{AllByRecursion}
use Rattle.gib_nodes.specs.Nodes as arena
use Rattle.gib_syntax.specs.declared.exprs.ExprId.{ExprId}
use Rattle.gib_syntax.specs.declared.exprs.Arm.{Arm}
use Rattle.gib_syntax.specs.declared.generic.GenericNode.{GenericNode as Node}
use Rattle.gib_syntax.specs.declared.generic.GenericNode.TheVariants as n
use Rattle.gib_syntax.specs.declared.written.Word.{Word}
use Rattle.gib_syntax.specs.declared.written.Run.{Run}
use Rattle.gib_syntax.specs.GenericTree.{GenericExpression, GenericArguments, GenericArms, GenericVar, GenericNum, GenericBit, GenericParen, GenericOp, GenericCall, GenericMake, GenericLet, GenericPar, GenericIf, GenericCase, GenericTuple, GenericNoArgument, GenericArgument, GenericLastArm, GenericNextArm}
use Rattle.gib_syntax.specs.Words.{run_words, types_in, IsRunIn, IsTypesRun}

-- Words and nodes.
pub record Arena : Type 0 where
  pub words : List Word
  pub nodes : List Node

-- No words and no nodes.
abbrev pub empty : Arena
empty = record { words = []; nodes = [] }

-- The expression of an arm has a smaller number.
abbrev pub IsArmBelow : ℕ → Arm → Type 0
IsArmBelow id arm = arm.body.0 < id

-- A case has an arm at least.
abbrev pub ArmsBelow : List Arm → ℕ → Type 0
ArmsBelow [] id = ⊥
ArmsBelow (arm ∷ arms) id = IsArmBelow id arm × AllByRecursion (IsArmBelow id) arms

-- The parts of a node have smaller numbers; a literal is at most 2^63 - 1.
abbrev pub PartsBelow : Node → ℕ → Type 0
PartsBelow (n.Variable x) id = Unit {0}
PartsBelow (n.Whole p v) id = v < 2 ^ 63
PartsBelow (n.Truth p b) id = Unit {0}
PartsBelow (n.Paren p a) id = a.0 < id
PartsBelow (n.Operation p f a b) id = (a.0 < id) × (b.0 < id)
PartsBelow (n.Call f ws xs) id = AllByRecursion (λ (a : ExprId). a.0 < id) xs.items
PartsBelow (n.Make k ws xs) id = AllByRecursion (λ (a : ExprId). a.0 < id) xs.items
PartsBelow (n.Let p xs a b) id = (a.0 < id) × (b.0 < id)
PartsBelow (n.LetPar p l r b) id = (l.value.0 < id) × (r.value.0 < id) × (b.0 < id)
PartsBelow (n.If p a b c) id = (a.0 < id) × (b.0 < id) × (c.0 < id)
PartsBelow (n.Case p x arms) id = ArmsBelow arms.items id
PartsBelow (n.Tuple p xs) id = AllByRecursion (λ (a : ExprId). a.0 < id) xs.items

-- The type arguments of a node are types among these words.
abbrev pub IsRunWithin : Node → List Word → Type 0
IsRunWithin (n.Variable x) words = Unit {0}
IsRunWithin (n.Whole p v) words = Unit {0}
IsRunWithin (n.Truth p b) words = Unit {0}
IsRunWithin (n.Paren p a) words = Unit {0}
IsRunWithin (n.Operation p f a b) words = Unit {0}
IsRunWithin (n.Call f ws xs) words = IsTypesRun words ws
IsRunWithin (n.Make k ws xs) words = IsTypesRun words ws
IsRunWithin (n.Let p xs a b) words = Unit {0}
IsRunWithin (n.LetPar p l r b) words = Unit {0}
IsRunWithin (n.If p a b c) words = Unit {0}
IsRunWithin (n.Case p x arms) words = Unit {0}
IsRunWithin (n.Tuple p xs) words = Unit {0}

-- Each node stands behind its parts, and its type arguments are types among the words.
pub record IsArena (a : Arena) : Type 0 where
  pub below : (id : ℕ) (node : Node) → slice_get a.nodes id ≡ Some node → PartsBelow node id
  pub within : (id : ℕ) (node : Node) → slice_get a.nodes id ≡ Some node → IsRunWithin node a.words

-- Arguments as a tree, where their numbers have these trees.
abbrev pub arguments_from : (ℕ → GenericExpression) → List ExprId → GenericArguments
arguments_from f [] = GenericNoArgument
arguments_from f (i ∷ is) = GenericArgument (f i.0) (arguments_from f is)

-- Arms, one at least, as a tree, where the numbers of their expressions have these trees.
abbrev pub arms_from : (ℕ → GenericExpression) → Arm → List Arm → GenericArms
arms_from f arm [] = GenericLastArm arm.constructor arm.variables.items (f arm.body.0)
arms_from f arm (next ∷ arms) = GenericNextArm arm.constructor arm.variables.items (f arm.body.0) (arms_from f next arms)

-- The tree of no node.
abbrev pub nothing : GenericExpression
nothing = GenericBit (record { start = 0; end = 0 }) Rattle.std.specs.Prelude.false

-- A case of these arms; of no arm, the tree of no node.
abbrev pub case_from : (ℕ → GenericExpression) → List Arm → (GenericArms → GenericExpression) → GenericExpression
case_from f [] make = nothing
case_from f (arm ∷ arms) make = make (arms_from f arm arms)

-- A node as a tree, where its parts are these trees and its type arguments are words of these.
abbrev pub layer : List Word → (ℕ → GenericExpression) → Option Node → GenericExpression
layer words f None = nothing
layer words f (Some (n.Variable x)) = GenericVar x
layer words f (Some (n.Whole p v)) = GenericNum p v
layer words f (Some (n.Truth p b)) = GenericBit p b
layer words f (Some (n.Paren p a)) = GenericParen p (f a.0)
layer words f (Some (n.Operation p g a b)) = GenericOp p g (f a.0) (f b.0)
layer words f (Some (n.Call g ws xs)) = GenericCall g (types_in words ws) (arguments_from f xs.items)
layer words f (Some (n.Make k ws xs)) = GenericMake k (types_in words ws) (arguments_from f xs.items)
layer words f (Some (n.Let p xs a b)) = GenericLet p xs (f a.0) (f b.0)
layer words f (Some (n.LetPar p l r b)) = GenericPar p l.names (f l.value.0) r.names (f r.value.0) (f b.0)
layer words f (Some (n.If p a b c)) = GenericIf p (f a.0) (f b.0) (f c.0)
layer words f (Some (n.Case p x arms)) = case_from f arms.items (GenericCase p x)
layer words f (Some (n.Tuple p xs)) = GenericTuple p (arguments_from f xs.items)

-- A node as what it is over any words, where its parts are so.
abbrev pub layer_of : (ℕ → List Word → GenericExpression) → Option Node → List Word → GenericExpression
layer_of f o words = layer words (λ id. f id words) o

-- The tree of no node, over any words.
abbrev pub nothing_of : List Word → GenericExpression
nothing_of words = nothing

-- The tree of the node of a number.
unfoldable pub tree_of : Arena → ℕ → GenericExpression
tree_of a id = arena.tree_of nothing_of layer_of a.nodes id a.words

-- What a node tells of the tree of its number: its layer over the trees of its parts, which have
-- smaller numbers.
abbrev pub Opens : Arena → ℕ → Node → Type 0
Opens a id node = (tree_of a id ≡ layer a.words (tree_of a) (Some node)) × PartsBelow node id

-- The trees that were there stay, and so do the words.
pub record Grows (old new : Arena) : Type 0 where
  pub longer : length old.nodes ≤ length new.nodes
  pub same : (id : ℕ) → id < length old.nodes → tree_of new id ≡ tree_of old id
  pub runs : (run : Run) → IsRunIn old.words run → IsRunIn new.words run × (run_words new.words run ≡ run_words old.words run)

-- A node was put at a number.
pub record Makes (old new : Arena) (id : ℕ) (node : Node) : Type 0 where
  pub grows : Grows old new
  pub inside : id < length new.nodes
  pub tree : tree_of new id ≡ layer old.words (tree_of old) (Some node)
