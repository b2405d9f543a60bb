-- A node's term is made of the terms of its parts alone.
use Rattle.std.proofs.Common.{◌≡◌, ℕ, ◌<◌, List, [], ◌∷◌, Some, None, refl, ap}
use Rattle.std.specs.List.{AllByRecursion}
use Rattle.gib_nodes.specs.Nodes.{IsOfParts}
use Rattle.gib_core.specs.declared.node.Binding.{Binding}
use Rattle.gib_core.specs.declared.node.Binding.TheVariants as b
use Rattle.gib_core.specs.declared.node.Branch.{Branch}
use Rattle.gib_core.specs.declared.node.TermId.{TermId}
use Rattle.gib_core.specs.declared.node.BoundSide.{BoundSide}
use Rattle.gib_core.specs.declared.node.BoundSide.TheVariants as s
use Rattle.gib_core.specs.PartTypes.{types_in}
use Rattle.gib_core.specs.declared.node.Node.TheVariants as n
use Rattle.gib_core.specs.Tree.{Term, Then, CaseTerm, IfTerm, Tuple, PartThen, variables_from, One, Both, On, Several, BranchThen}
use Rattle.gib_core.specs.Arena.{IsBindingBelow, IsBranchBelow, IsPartBelow, PartsBelow, term_in, side_from, bind_from, parts_from, branches_from, layer}

-- Branches whose terms stand below a number keep them.
pub branches_same_below : (f g : ℕ → Term) (id : ℕ) (bs : List Branch) → AllByRecursion (IsBranchBelow id) bs
    → ((a : ℕ) → a < id → f a ≡ g a) → branches_from f bs ≡ branches_from g bs
branches_same_below f g id [] h e = refl
branches_same_below f g id (x ∷ bs) h e = (λ k. BranchThen x.constructor x.variables.items (e x.term.0 h.0 k) (branches_same_below f g id bs h.1 e k))

-- A side is made of its term.
pub side_same : (f g : ℕ → Term) (id : ℕ) (x : BoundSide) → (term_in x).0 < id
    → ((a : ℕ) → a < id → f a ≡ g a) → side_from f x ≡ side_from g x
side_same f g id (s.One x) below e = (λ k. On x.kind x.variable x.ty (e x.term.0 below k))
side_same f g id (s.Several x) below e = ap (Several (variables_from x.first.0 (types_in x.types)) (types_in x.types)) (e x.term.0 below)

-- A binding is made of its terms.
pub bind_same : (f g : ℕ → Term) (id : ℕ) (x : Binding) → IsBindingBelow id x
    → ((a : ℕ) → a < id → f a ≡ g a) → bind_from f x ≡ bind_from g x
bind_same f g id (b.Past h k) below e = refl
bind_same f g id (b.One x) below e = ap One (side_same f g id x below e)
bind_same f g id (b.Par fork l r) below e = (λ k. Both fork (side_same f g id l below.0 e k) (side_same f g id r below.1 e k))
bind_same f g id (b.Prim x op y z) below e = refl
bind_same f g id (b.Reach y by) below e = refl

-- Parts that stand below a number keep their terms.
pub parts_same_below : (f g : ℕ → Term) (id : ℕ) (ts : List TermId) → AllByRecursion (IsPartBelow id) ts
    → ((a : ℕ) → a < id → f a ≡ g a) → parts_from f ts ≡ parts_from g ts
parts_same_below f g id [] h e = refl
parts_same_below f g id (t ∷ ts) h e = (λ k. PartThen (e t.0 h.0 k) (parts_same_below f g id ts h.1 e k))

-- A node is made of the trees of its parts.
pub layer_same_if : IsOfParts PartsBelow layer
layer_same_if f g id None below e = refl
layer_same_if f g id (Some (n.Then x rest)) below e = let h = below (n.Then x rest) refl in (λ k. Then (bind_same f g id x h.0 e k) (e rest.0 h.1 k))
layer_same_if f g id (Some (n.Write h k ss ps)) below e = refl
layer_same_if f g id (Some (n.Point x)) below e = refl
layer_same_if f g id (Some (n.Call x v)) below e = refl
layer_same_if f g id (Some (n.Give x)) below e = refl
layer_same_if f g id (Some (n.Case x v)) below e = ap (CaseTerm x) (branches_same_below f g id v.items (below (n.Case x v) refl) e)
layer_same_if f g id (Some (n.If x t u)) below e = let h = below (n.If x t u) refl in (λ k. IfTerm x (e t.0 h.0 k) (e u.0 h.1 k))
layer_same_if f g id (Some (n.Tuple tys ss ps)) below e =
    ap (Tuple (types_in tys) ss.items) (parts_same_below f g id ps.items (below (n.Tuple tys ss ps) refl) e)
