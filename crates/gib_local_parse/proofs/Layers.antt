-- What an arena tells of nodes, as terms of LoCal text.
use Rattle.std.proofs.Common.{◌≡◌, ℕ, List, [], ◌∷◌, Some, ap, subst, arith, length, length-append}
use Rattle.gib_nodes.specs.Nodes.{IsPut}
use Rattle.gib_nodes.specs.Nodes as arena
use Rattle.gib_local_parse.specs.declared.lines.LineNode.{LineNode}
use Rattle.gib_local_parse.specs.LineArena.{PartsBelow, layer, nothing, tree_of, Opens, Makes}

pub opens_view : (ns vs : List LineNode) (id : ℕ) (node : LineNode) → ns ≡ vs → arena.tree_of nothing layer ns id ≡ layer (arena.tree_of nothing layer ns) (Some node) → PartsBelow node id → Opens vs id node
unfolding tree_of
opens_view ns vs id node e opens below = (subst (λ (l : List LineNode). arena.tree_of nothing layer l id ≡ layer (arena.tree_of nothing layer l) (Some node)) e opens, below)

pub put_view : (ns vs new : List LineNode) (id : ℕ) (node : LineNode) → ns ≡ vs → IsPut nothing layer ns new id node → Makes vs new id node
unfolding tree_of
put_view ns vs new id node e put =
    let P : List LineNode → Type 0 = λ l. IsPut nothing layer l new id node in
    let there = subst P e put in
    let longer = ap length there.nodes in
    let len = length-append vs (node ∷ []) in
    record { grows = record { longer = omega (arith, longer, len); same = there.same }; inside = omega (arith, there.place, longer, len); tree = there.tree }
