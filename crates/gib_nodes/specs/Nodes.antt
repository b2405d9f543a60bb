-- Nodes one behind another, each behind its parts, and the trees that they stand for.
use Rattle.std.specs.Prelude.{◌≡◌, ℕ, zero, suc, ◌<◌, List, [], ◌∷◌, ◌++◌, length, Option, Some, slice_get}

-- Each node stands behind its parts.
pub record IsArena {Node : Type 0} (Below : Node → ℕ → Type 0) (nodes : List Node) : Type 0 where
  pub below : (id : ℕ) (node : Node) → slice_get nodes id ≡ Some node → Below node id

-- The tree of the node of a number, cut after so many levels: below them stands the tree of no node.
unfoldable pub tree_at : {Node Tree : Type 0} → Tree → ((ℕ → Tree) → Option Node → Tree) → ℕ → List Node → ℕ → Tree
tree_at nothing layer zero nodes id = nothing
tree_at nothing layer (suc k) nodes id = layer (tree_at nothing layer k nodes) (slice_get nodes id)

-- The tree of the node of a number.
unfoldable pub tree_of : {Node Tree : Type 0} → Tree → ((ℕ → Tree) → Option Node → Tree) → List Node → ℕ → Tree
tree_of nothing layer nodes id = tree_at nothing layer (suc id) nodes id

-- A layer is made of the trees of a node's parts alone, which have smaller numbers.
abbrev pub IsOfParts : {Node Tree : Type 0} → (Node → ℕ → Type 0) → ((ℕ → Tree) → Option Node → Tree) → Type 0
IsOfParts {Node} {Tree} Below layer =
    (f g : ℕ → Tree) (id : ℕ) (o : Option Node) → ((node : Node) → o ≡ Some node → Below node id) → ((a : ℕ) → a < id → f a ≡ g a)
    → layer f o ≡ layer g o

-- A node was put behind all others, whose trees stay, and has the next number.
pub record IsPut {Node Tree : Type 0} (nothing : Tree) (layer : (ℕ → Tree) → Option Node → Tree) (old new : List Node) (id : ℕ) (node : Node)
    : Type 0 where
  pub place : id ≡ length old
  pub nodes : new ≡ old ++ (node ∷ [])
  pub same : (a : ℕ) → a < length old → tree_of nothing layer new a ≡ tree_of nothing layer old a
  pub tree : tree_of nothing layer new id ≡ layer (tree_of nothing layer old) (Some node)
