-- What an arena tells of nodes, as terms.
use Rattle.std.proofs.Common.{◌≡◌, ℕ, ◌<◌, List, [], ◌∷◌, Some, refl, ap, subst, arith, length, length-append}
use Rattle.std.specs.Prelude.{slice_get}
use Rattle.std.specs.List.{AllByRecursion}
use Rattle.gib_nodes.specs.Nodes.{IsPut}
use Rattle.gib_nodes.specs.Nodes as arena
use Rattle.gib_nodes.proofs.Layers as layers
use Rattle.gib_core.specs.declared.node.Binding.{Binding}
use Rattle.gib_core.specs.declared.node.Node.{Node}
use Rattle.gib_core.specs.Tree.{Term}
use Rattle.gib_core.specs.Arena.{IsBindingBelow, PartsBelow, IsArena, binds_from, layer, nothing, term_of, Opens, Makes}
use Rattle.gib_core.specs.ArenaLaws.{bind_same, layer_same_if}

-- Bindings that stand below a number keep their terms.
pub binds_same_below : (f g : ℕ → Term) (id : ℕ) (bs : List Binding) → AllByRecursion (IsBindingBelow id) bs → ((a : ℕ) → a < id → f a ≡ g a) → binds_from f bs ≡ binds_from g bs
binds_same_below f g id [] h e = refl
binds_same_below f g id (x ∷ bs) h e = (λ k. bind_same f g id x h.0 e k ∷ binds_same_below f g id bs h.1 e k)

-- The node of a number tells its term.
pub term_of-node : (ns : List Node) (id : ℕ) (node : Node) → IsArena ns → slice_get ns id ≡ Some node → term_of ns id ≡ layer (term_of ns) (Some node)
unfolding term_of
term_of-node ns id node all e = layers.tree_of-node Node Term PartsBelow nothing layer layer_same_if ns id node all e

-- Nodes that are the same below a number have the same terms there.
pub same_terms : (ns ms : List Node) (k : ℕ) → IsArena ns → ((id : ℕ) → id < k → slice_get ms id ≡ slice_get ns id) → (id : ℕ) → id < k → term_of ms id ≡ term_of ns id
unfolding term_of
same_terms ns ms k all e id lt = layers.same_below Node Term PartsBelow nothing layer layer_same_if ns ms k all e id lt

-- The same, of what a clause sees.
pub opens_view : (ns vs : List Node) (id : ℕ) (node : Node) → ns ≡ vs → arena.tree_of nothing layer ns id ≡ layer (arena.tree_of nothing layer ns) (Some node) → PartsBelow node id → Opens vs id node
unfolding term_of
opens_view ns vs id node e opens below = (subst (λ (l : List Node). arena.tree_of nothing layer l id ≡ layer (arena.tree_of nothing layer l) (Some node)) e opens, below)

pub put_view : (ns vs new : List Node) (id : ℕ) (node : Node) → ns ≡ vs → IsPut nothing layer ns new id node → Makes vs new id node
unfolding term_of
put_view ns vs new id node e put =
    let P : List Node → Type 0 = λ l. IsPut nothing layer l new id node in
    let there = subst P e put in
    let longer = ap length there.nodes in
    let len = length-append vs (node ∷ []) in
    record {
      grows = record { longer = omega (arith, longer, len); same = there.same };
      place = there.place;
      long = omega (arith, longer, len);
      inside = omega (arith, there.place, longer, len);
      term = there.tree;
    }
