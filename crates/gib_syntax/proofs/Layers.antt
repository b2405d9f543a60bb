-- What an arena tells of nodes, as the trees of expressions.
use Rattle.std.proofs.Common.{◌≡◌, ℕ, ◌≤◌, List, [], ◌∷◌, Some, ap, subst, arith, length, length-append}
use Rattle.gib_nodes.specs.Nodes.{IsPut}
use Rattle.gib_nodes.specs.Nodes as arena
use Rattle.gib_nodes.proofs.Layers as layers
use Rattle.gib_syntax.specs.declared.exprs.Node.{Node}
use Rattle.gib_syntax.specs.Arena.{PartsBelow, layer, nothing, tree_of, Opens, Makes}
use Rattle.gib_syntax.specs.ArenaLaws.{layer_same_if}

pub opens_view : (ns vs : List Node) (id : ℕ) (node : Node) → ns ≡ vs → arena.tree_of nothing layer ns id ≡ layer (arena.tree_of nothing layer ns) (Some node) → PartsBelow node id → Opens vs id node
unfolding tree_of
opens_view ns vs id node e opens below = (subst (λ (l : List Node). arena.tree_of nothing layer l id ≡ layer (arena.tree_of nothing layer l) (Some node)) e opens, below)

pub put_view : (ns vs new : List Node) (id : ℕ) (node : Node) → ns ≡ vs → IsPut nothing layer ns new id node → Makes vs new id node
unfolding tree_of
put_view ns vs new id node e put =
    let P : List Node → Type 0 = λ l. IsPut nothing layer l new id node in
    let there = subst P e put in
    let longer = ap length there.nodes in
    let len = length-append vs (node ∷ []) in
    record { grows = record { longer = omega (arith, longer, len); same = there.same }; inside = omega (arith, there.place, longer, len); tree = there.tree }

-- Past the last node there is none.
pub tree-past : (nodes : List Node) (id : ℕ) → length nodes ≤ id → tree_of nodes id ≡ nothing
unfolding tree_of
tree-past nodes id le = layers.tree_past Node _ PartsBelow nothing layer layer_same_if nodes id le
