-- A node's tree is its layer over the trees of its parts.
use Rattle.std.proofs.Common.{◌≡◌, ℕ, zero, suc, ◌<◌, ◌≤◌, List, [], ◌∷◌, Option, Some, None, refl, sym, ap, ◌∙◌, subst, arith, ◌++◌, length, get_or, ⊎_elim, length-append}
use Rattle.std.proofs.str.Laws.{order}
use Rattle.std.proofs.lemmas.Option.{same_Some, slice_get_within, slice_get_past, slice_get-get_or}
use Rattle.std.specs.Prelude.{slice_get, slice_set}
use Rattle.gib_nodes.specs.Nodes.{IsArena, IsOfParts, tree_at, tree_of, IsPut}

pub slice_get_front : {A : Type 0} (xs more : List A) (id : ℕ) → id < length xs → slice_get (xs ++ more) id ≡ slice_get xs id
slice_get_front [] more id lt = absurd (omega arith)
slice_get_front (x ∷ xs) more zero lt = refl
slice_get_front (x ∷ xs) more (suc id) lt = slice_get_front xs more id (omega arith)

pub slice_get_end : {A : Type 0} (xs : List A) (x : A) → slice_get (xs ++ x ∷ []) (length xs) ≡ Some x
slice_get_end [] x = refl
slice_get_end (y ∷ xs) x = slice_get_end xs x

pub get_set : {A : Type 0} (xs : List A) (place : ℕ) (x : A) → place < length xs → slice_get (slice_set xs place x) place ≡ Some x
get_set [] place x lt = absurd (omega arith)
get_set (y ∷ xs) zero x lt = refl
get_set (y ∷ xs) (suc place) x lt = get_set xs place x (omega arith)

pub get_unset : {A : Type 0} (xs : List A) (place id : ℕ) (x : A) → (id ≡ place → ⊥) → slice_get (slice_set xs place x) id ≡ slice_get xs id
get_unset [] place id x ne = refl
get_unset (y ∷ xs) zero zero x ne = absurd (ne refl)
get_unset (y ∷ xs) zero (suc id) x ne = refl
get_unset (y ∷ xs) (suc place) zero x ne = refl
get_unset (y ∷ xs) (suc place) (suc id) x ne = get_unset xs place id x (λ e. ne (ap suc e))

-- What holds of each node by its number, and of one more, holds of all.
pub put_each : {A : Type 0} (P : A → ℕ → Type 0) (xs : List A) (x : A) → ((id : ℕ) (y : A) → slice_get xs id ≡ Some y → P y id) → P x (length xs) → (id : ℕ) (y : A) → slice_get (xs ++ x ∷ []) id ≡ Some y → P y id
put_each P xs x each here id y e =
    ⊎_elim
    (λ lt. each id y (sym (slice_get_front xs (x ∷ []) id lt) ∙ e))
    (λ le.
    let within = slice_get_within (xs ++ x ∷ []) id y e in
    let is : length xs ≡ id = omega (arith, length-append xs (x ∷ [])) in
    let which : x ≡ y = same_Some x y (sym (slice_get_end xs x) ∙ ap (slice_get (xs ++ x ∷ [])) is ∙ e) in
    subst (λ z. P z id) which (subst (P x) is here))
    (order id (length xs))

-- What holds of each node by its number, and of another at one place, holds of all.
pub set_each : {A : Type 0} (P : A → ℕ → Type 0) (xs : List A) (place : ℕ) (x : A) → ((id : ℕ) (y : A) → slice_get xs id ≡ Some y → P y id) → place < length xs → P x place → (id : ℕ) (y : A) → slice_get (slice_set xs place x) id ≡ Some y → P y id
set_each P [] place x each lt here id y e = absurd (omega arith)
set_each P (z ∷ xs) zero x each lt here zero y e = subst (λ w. P w zero) (same_Some x y e) here
set_each P (z ∷ xs) zero x each lt here (suc id) y e = each (suc id) y e
set_each P (z ∷ xs) (suc place) x each lt here zero y e = each zero y e
set_each P (z ∷ xs) (suc place) x each lt here (suc id) y e = set_each (λ w k. P w (suc k)) xs place x (λ k w f. each (suc k) w f) (omega arith) here id y e

-- One kind of nodes, whose trees are made of the trees of their parts alone.
module _ (Node Tree : Type 0) (Below : Node → ℕ → Type 0) (nothing : Tree) (layer : (ℕ → Tree) → Option Node → Tree) (layer_parts : IsOfParts Below layer) where
  abbrev at : ℕ → List Node → ℕ → Tree
  at k ns id = tree_at nothing layer k ns id

  abbrev of : List Node → ℕ → Tree
  of ns id = tree_of nothing layer ns id

  same_at : (ns : List Node) → IsArena Below ns → (k l id : ℕ) → id < k → id < l → at k ns id ≡ at l ns id
  unfolding tree_at
  same_at ns arena zero l id lt lt' = absurd (omega arith)
  same_at ns arena (suc k) zero id lt lt' = absurd (omega arith)
  same_at ns arena (suc k) (suc l) id lt lt' =
      layer_parts (at k ns) (at l ns) id (slice_get ns id) (arena.below id) (λ a h. same_at ns arena k l a (omega arith) (omega arith))

  tree_of-layer : (ns : List Node) (id : ℕ) → IsArena Below ns → of ns id ≡ layer (of ns) (slice_get ns id)
  unfolding tree_of tree_at
  tree_of-layer ns id arena =
      layer_parts (at id ns) (λ a. at (suc a) ns a) id (slice_get ns id) (arena.below id) (λ a h. same_at ns arena id (suc a) a h (omega arith))

  -- The node of a number tells its tree.
  pub tree_of-node : (ns : List Node) (id : ℕ) (node : Node) → IsArena Below ns → slice_get ns id ≡ Some node → of ns id ≡ layer (of ns) (Some node)
  tree_of-node ns id node arena e = tree_of-layer ns id arena ∙ ap (layer (of ns)) e

  at_below : (ns ms : List Node) (n : ℕ) → IsArena Below ns → ((id : ℕ) → id < n → slice_get ms id ≡ slice_get ns id) → (k id : ℕ) → id < n → at k ms id ≡ at k ns id
  unfolding tree_at
  at_below ns ms n arena e zero id lt = refl
  at_below ns ms n arena e (suc k) id lt =
      ap (layer (at k ms)) (e id lt) ∙ layer_parts (at k ms) (at k ns) id (slice_get ns id) (arena.below id) (λ a less. at_below ns ms n arena e k a (omega arith))

  -- Nodes that are the same below a number have the same trees there.
  pub same_below : (ns ms : List Node) (n : ℕ) → IsArena Below ns → ((id : ℕ) → id < n → slice_get ms id ≡ slice_get ns id) → (id : ℕ) → id < n → of ms id ≡ of ns id
  unfolding tree_of
  same_below ns ms n arena e id lt = at_below ns ms n arena e (suc id) id lt

  -- Past the last node there is none.
  pub tree_past : (ns : List Node) (id : ℕ) → length ns ≤ id → of ns id ≡ layer (at id ns) None
  unfolding tree_of tree_at
  tree_past ns id le = ap (layer (at id ns)) (slice_get_past ns id le)

  front_tree : (ns more : List Node) → IsArena Below ns → (id : ℕ) → id < length ns → of (ns ++ more) id ≡ of ns id
  front_tree ns more arena = same_below ns (ns ++ more) (length ns) arena (λ id lt. slice_get_front ns more id lt)

  layer_same : (f g : ℕ → Tree) (id : ℕ) (node : Node) → Below node id → ((a : ℕ) → a < id → f a ≡ g a) → layer f (Some node) ≡ layer g (Some node)
  layer_same f g id node below e = layer_parts f g id (Some node) (λ x eq. subst (λ (y : Node). Below y id) (same_Some node x eq) below) e

  pub put_arena : (ns : List Node) (node : Node) → IsArena Below ns → Below node (length ns) → IsArena Below (ns ++ node ∷ [])
  put_arena ns node arena below = record { below = put_each Below ns node arena.below below }

  put_is : (ns : List Node) (node : Node) → IsArena Below ns → Below node (length ns) → IsPut nothing layer ns (ns ++ node ∷ []) (length ns) node
  put_is ns node arena below =
      let new = ns ++ node ∷ [] in
      record {
        place = refl;
        nodes = refl;
        same = λ id lt. front_tree ns (node ∷ []) arena id lt;
        tree = tree_of-node new (length ns) node (put_arena ns node arena below) (slice_get_end ns node) ∙ layer_same (of new) (of ns) (length ns) node below (λ a lt. front_tree ns (node ∷ []) arena a lt);
      }

  -- The same, of what a clause sees.
  pub found_view : (ns vs : List Node) (id : ℕ) (node : Node) → ns ≡ vs → id < length vs → node ≡ get_or ns id node → slice_get vs id ≡ Some node
  found_view ns vs id node e lt is =
      let within : id < length ns = subst (λ (l : List Node). id < length l) (sym e) lt in
      subst (λ (l : List Node). slice_get l id ≡ Some node) e (slice_get-get_or ns id node within ∙ ap Some (sym is))

  pub opens_view : (ns vs : List Node) (id : ℕ) (node : Node) → ns ≡ vs → IsArena Below ns → id < length vs → node ≡ get_or ns id node → of vs id ≡ layer (of vs) (Some node)
  opens_view ns vs id node e arena lt is = tree_of-node vs id node (subst (IsArena Below) e arena) (found_view ns vs id node e lt is)

  pub below_view : (ns vs : List Node) (id : ℕ) (node : Node) → ns ≡ vs → IsArena Below ns → id < length vs → node ≡ get_or ns id node → Below node id
  below_view ns vs id node e arena lt is = let there = subst (IsArena Below) e arena in there.below id node (found_view ns vs id node e lt is)

  pub put_view : (ns vs new : List Node) (id : ℕ) (node : Node) → ns ≡ vs → IsArena Below ns → Below node (length vs) → id ≡ length ns → new ≡ ns ++ node ∷ [] → IsPut nothing layer vs new id node
  put_view ns vs new id node e arena below is made =
      let P : List Node → Type 0 = λ l. Below node (length l) in
      let Q : List Node → Type 0 = λ l. IsPut nothing layer l new id node in
      subst Q e (rw (made, is) (put_is ns node arena (subst P (sym e) below)))

  pub set_arena : (ns vs : List Node) (place : ℕ) (node : Node) → ns ≡ vs → IsArena Below ns → place < length vs → Below node place → IsArena Below (slice_set ns place node)
  set_arena ns vs place node e arena lt below =
      record { below = set_each Below ns place node arena.below (subst (λ (l : List Node). place < length l) (sym e) lt) below }
