-- Marking the pars of terms, one after another.
use Rattle.std.proofs.Common.{◌≡◌, ℕ, ◌+◌, ◌<◌, ◌≤◌, Bool, true, false, ◌||◌, ◌&&◌, List, [], ◌∷◌, length, get_or, Some, refl, sym, ap, ◌∙◌, subst, arith, ⊎_elim}
use Rattle.std.specs.Prelude.{slice_get, slice_set}
use Rattle.std.specs.List.{AllByRecursion}
use Rattle.std.proofs.str.Laws.{order}
use Rattle.std.proofs.lemmas.Option.{same_Some, slice_get-get_or}
use Rattle.std.proofs.lemmas.List.{length-set}
use Rattle.gib_core.specs.declared.node.Binding.{Binding}
use Rattle.gib_core.specs.declared.node.Binding.TheVariants as b
use Rattle.gib_core.specs.declared.node.Branch.{Branch}
use Rattle.gib_core.specs.declared.node.BoundSide.{BoundSide}
use Rattle.gib_core.specs.declared.node.BoundSide.TheVariants as s
use Rattle.gib_core.specs.PartTypes.{types_in}
use Rattle.gib_core.specs.declared.node.Node.{Node}
use Rattle.gib_core.specs.declared.node.Node.TheVariants as n
use Rattle.gib_core.specs.Tree.{Term, Then, CaseTerm, IfTerm, Tuple, PartThen, One, Both, On, Several, BranchThen, variables_from}
use Rattle.gib_core.specs.Arena.{IsBindingBelow, IsBranchBelow, IsPartBelow, PartsBelow, IsArena, Opens, term_in, side_from, bind_from, parts_from, branches_from, layer, term_of}
use Rattle.gib_core.specs.Marking.{has_call, side_has_call, bind_has_call, may_fork, mark_one, mark, with_fork, node_with_fork, IsSet}
use Rattle.gib_core.specs.Walk.{map_bind, map_side, map_parts, map_branches, as_it_is}
use Rattle.gib_core.specs.declared.node.TermId.{TermId}
use Rattle.gib_nodes.proofs.Layers.{get_set, get_unset}
use Rattle.gib_core.specs.ArenaLaws.{layer_same_if}
use Rattle.gib_core.proofs.Layers.{term_of-node, same_terms}

-- A line, up to a binding: so far none contains a call.
pub record CallSoFar (terms : List Node) (id last : ℕ) (node : Node) : Type 0 where
  pub within : last ≤ id
  pub inside : last < length terms
  pub opens : Opens terms last node
  pub same : has_call (term_of terms id) ≡ has_call (term_of terms last)

pub call_here : (terms : List Node) (id last : ℕ) (binding : Binding) (rest : ℕ) (node : Node) → CallSoFar terms id last node → ((f : ℕ → Term) → layer f (Some node) ≡ Then (bind_from f binding) (f rest))
    → bind_has_call (bind_from (term_of terms) binding) ≡ true → true ≡ has_call (term_of terms id)
call_here terms id last binding rest node h is yes' =
    sym (h.same ∙ ap has_call (h.opens.0 ∙ is (term_of terms)) ∙ ap (λ a. a || has_call (term_of terms rest)) yes')

-- A node's layer over marked parts, with its mark set.

branches_marked : (f g : ℕ → Term) (id : ℕ) (bs : List Branch) → AllByRecursion (IsBranchBelow id) bs → ((a : ℕ) → a < id → g a ≡ mark (f a)) → branches_from g bs ≡ map_branches mark_one as_it_is (branches_from f bs)
branches_marked f g id [] h e = refl
branches_marked f g id (x ∷ bs) h e = (λ k. BranchThen x.constructor x.variables.items (e x.term.0 h.0 k) (branches_marked f g id bs h.1 e k))

side_marked : (f g : ℕ → Term) (id : ℕ) (x : BoundSide) → (term_in x).0 < id → ((a : ℕ) → a < id → g a ≡ mark (f a)) → side_from g x ≡ map_side mark_one as_it_is (side_from f x)
side_marked f g id (s.One x) below e = (λ k. On x.kind x.variable x.ty (e x.term.0 below k))
side_marked f g id (s.Several x) below e = ap (Several (variables_from x.first.0 (types_in x.types)) (types_in x.types)) (e x.term.0 below)

parts_marked : (f g : ℕ → Term) (id : ℕ) (ts : List TermId) → AllByRecursion (IsPartBelow id) ts → ((a : ℕ) → a < id → g a ≡ mark (f a)) → parts_from g ts ≡ map_parts mark_one as_it_is (parts_from f ts)
parts_marked f g id [] h e = refl
parts_marked f g id (t ∷ ts) h e = (λ k. PartThen (e t.0 h.0 k) (parts_marked f g id ts h.1 e k))

bind_marked : (f g : ℕ → Term) (id : ℕ) (x : Binding) (fork : Bool) → IsBindingBelow id x → ((a : ℕ) → a < id → g a ≡ mark (f a)) → fork ≡ Rattle.gib_core.specs.Marking.bind_may_fork (bind_from g x)
    → bind_from g (with_fork fork x) ≡ mark_one (map_bind mark_one as_it_is (bind_from f x))
bind_marked f g id (b.Past h k) fork below e m = refl
bind_marked f g id (b.One x) fork below e m = ap One (side_marked f g id x below e)
bind_marked f g id (b.Par old x y) fork below e m =
    ap (λ c. Both c (side_from g x) (side_from g y)) m
    ∙ (λ k.
    let l = side_marked f g id x below.0 e k in
    let r = side_marked f g id y below.1 e k in
    Both (side_has_call l && side_has_call r) l r)
bind_marked f g id (b.Prim x op y z) fork below e m = refl
bind_marked f g id (b.Reach y by) fork below e m = refl

layer_marked : (f g : ℕ → Term) (id : ℕ) (x : Node) (fork : Bool) → PartsBelow x id → ((a : ℕ) → a < id → g a ≡ mark (f a)) → fork ≡ may_fork (layer g (Some x))
    → layer g (Some (node_with_fork fork x)) ≡ mark (layer f (Some x))
layer_marked f g id (n.Then x rest) fork below e m = (λ k. Then (bind_marked f g id x fork below.0 e m k) (e rest.0 below.1 k))
layer_marked f g id (n.Write h k ss ps) fork below e m = refl
layer_marked f g id (n.Point x) fork below e m = refl
layer_marked f g id (n.Call x v) fork below e m = refl
layer_marked f g id (n.Give x) fork below e m = refl
layer_marked f g id (n.Case x v) fork below e m = ap (CaseTerm x) (branches_marked f g id v.items below e)
layer_marked f g id (n.If x t u) fork below e m = (λ k. IfTerm x (e t.0 below.0 k) (e u.0 below.1 k))
layer_marked f g id (n.Tuple tys ss ps) fork below e m = ap (Tuple (types_in tys) ss.items) (parts_marked f g id ps.items below e)

-- Terms below a place are marked, and nodes from there on are as they were.
pub record MarkedBelow (old now : List Node) (place : ℕ) : Type 0 where
  pub first : IsArena old
  pub arena : IsArena now
  pub long : length now ≡ length old
  pub within : place ≤ length old
  pub done' : (id : ℕ) → id < place → term_of now id ≡ mark (term_of old id)
  pub later : (id : ℕ) → place ≤ id → slice_get now id ≡ slice_get old id

pub marked_first : (old : List Node) → IsArena old → MarkedBelow old old 0
marked_first old arena = record { first = arena; arena = arena; long = refl; within = omega arith; done' = λ id lt. absurd (omega arith); later = λ id le. refl }

at_place : (old now new : List Node) (place : ℕ) (x : Node) (fork : Bool) → MarkedBelow old now place → slice_get old place ≡ Some x → IsSet now new place fork → fork ≡ may_fork (term_of now place)
    → ((id : ℕ) → id < place → term_of new id ≡ mark (term_of old id)) → term_of new place ≡ mark (term_of old place)
at_place old now new place x fork h is set m below =
    let here = h.later place (omega arith) ∙ is in
    let was = term_of-node old place x h.first is in
    let parts = h.first.below place x is in
    let told : fork ≡ may_fork (layer (term_of now) (Some x)) = m ∙ ap may_fork (term_of-node now place x h.arena here) in
    let Q : (ℕ → Term) → Type 0 = λ f. fork ≡ may_fork (layer f (Some x)) in
    let same : layer (term_of now) (Some x) ≡ layer (term_of new) (Some x) =
    layer_same_if (term_of now) (term_of new) place (Some x) (λ y e. subst (λ z. PartsBelow z place) (same_Some x y e) parts) (λ a lt. h.done' a lt ∙ sym (below a lt)) in
    term_of-node new place (node_with_fork fork x) set.arena (set.node x here)
    ∙ layer_marked (term_of old) (term_of new) place x fork parts below (told ∙ ap may_fork same)
    ∙ ap mark (sym was)

pub marked_next : (old now new : List Node) (place next : ℕ) (fork : Bool) → MarkedBelow old now place → place < length now → IsSet now new place fork → fork ≡ may_fork (term_of now place) → next ≡ place + 1 → MarkedBelow old new next
marked_next old now new place next fork h lt set m e =
    let inside : place < length old = omega (arith, lt, h.long) in
    let x = get_or old place (n.Give (Rattle.gib_core.specs.declared.atom.Atom.TheVariants.Truth false)) in
    let is = slice_get-get_or old place x inside in
    let below : (id : ℕ) → id < place → term_of new id ≡ mark (term_of old id) =
    λ id less. same_terms now new place h.arena (λ a lt'. set.others a (λ eq. absurd (omega (arith, lt', eq)))) id less ∙ h.done' id less in
    record {
      first = h.first;
      arena = set.arena;
      long = set.long ∙ h.long;
      within = omega (arith, inside, e);
      done' = λ id less.
          ⊎_elim
          (λ l. below id l)
          (λ le.
          let same : place ≡ id = omega (arith, less, le, e) in
          subst (λ k. term_of new k ≡ mark (term_of old k)) same (at_place old now new place (get_or old place x) fork h is set m below))
          (order id place);
      later = λ id le. set.others id (λ eq. absurd (omega (arith, le, eq, e))) ∙ h.later id (omega (arith, le, e));
    }

-- The mark of a node is set.

fork_below : (x : Binding) (id : ℕ) (fork : Bool) → IsBindingBelow id x → IsBindingBelow id (with_fork fork x)
fork_below (b.Past h k) id fork h' = h'
fork_below (b.One s) id fork h' = h'
fork_below (b.Par old l r) id fork h' = h'
fork_below (b.Prim x f y z) id fork h' = h'
fork_below (b.Reach y by) id fork h' = h'

-- A node with another mark has the same parts.
pub fork_parts : (node : Node) (place : ℕ) (binding made : Binding) (rest : TermId) (fork : Bool) → PartsBelow node place → node ≡ n.Then binding rest → made ≡ with_fork fork binding → PartsBelow (n.Then made rest) place
fork_parts node place binding made rest fork below is e =
    let parts = subst (λ (z : Node). PartsBelow z place) is below in
    (subst (IsBindingBelow place) (sym e) (fork_below binding place fork parts.0), parts.1)

pub set_view : (ns vs new : List Node) (place : ℕ) (binding made : Binding) (rest : TermId) (fork : Bool) → ns ≡ vs → place < length vs → slice_get ns place ≡ Some (n.Then binding rest) → made ≡ with_fork fork binding
    → new ≡ slice_set ns place (n.Then made rest) → IsArena new → IsSet vs new place fork
set_view ns vs new place binding made rest fork e lt found m is all =
    let inside : place < length ns = subst (λ (l : List Node). place < length l) (sym e) lt in
    let node = n.Then made rest in
    let P : List Node → Type 0 = λ l. IsSet l new place fork in
    subst P e (record {
      node = λ x f. ap (λ (l : List Node). slice_get l place) is ∙ get_set ns place node inside ∙ ap (λ (w : Binding). Some (n.Then w rest)) m ∙ ap (λ (z : Node). Some (node_with_fork fork z)) (same_Some (n.Then binding rest) x (sym found ∙ f));
      others = λ id ne. ap (λ (l : List Node). slice_get l id) is ∙ get_unset ns place id node ne;
      long = ap length is ∙ length-set ns place node;
      arena = all;
    })
