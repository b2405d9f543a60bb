-- A node's tree is made of the trees of its parts alone.
use Rattle.std.proofs.Common.{◌≡◌, ℕ, ◌<◌, List, [], ◌∷◌, Some, None, refl, ap}
use Rattle.std.specs.List.{AllByRecursion}
use Rattle.gib_nodes.specs.Nodes.{IsOfParts}
use Rattle.gib_local_parse.specs.declared.lines.LineArm.{LineArm}
use Rattle.gib_local_parse.specs.declared.lines.BindingNode.{BindingNode}
use Rattle.gib_local_parse.specs.declared.lines.BindingNode.TheVariants as b
use Rattle.gib_local_parse.specs.declared.lines.LineNode.TheVariants as n
use Rattle.gib_local_parse.specs.Tree.{Line, In, Cased, Chosen, LetIn, ParIn, Be, Arms, LastArm, NextArm}
use Rattle.gib_local_parse.specs.LineArena.{IsArmBelow, ArmsBelow, BindingBelow, PartsBelow, arms_from, case_from, binding_from, layer}

-- Arms are made of the trees of theirs.
arms_same : (f g : ℕ → Line) (id : ℕ) (arm : LineArm) (arms : List LineArm) → arm.line.0 < id → AllByRecursion (IsArmBelow id) arms
    → ((a : ℕ) → a < id → f a ≡ g a) → arms_from f arm arms ≡ arms_from g arm arms
arms_same f g id arm [] h hs e = (λ k. LastArm arm.constructor arm.variables.items (e arm.line.0 h k))
arms_same f g id arm (next ∷ arms) h hs e = (λ k. NextArm arm.constructor arm.variables.items (e arm.line.0 h k) (arms_same f g id next arms hs.0 hs.1 e k))

-- So is a case of arms.
case_same : (f g : ℕ → Line) (id : ℕ) (arms : List LineArm) (make : Arms → Line) → ArmsBelow arms id
    → ((a : ℕ) → a < id → f a ≡ g a) → case_from f arms make ≡ case_from g arms make
case_same f g id [] make h e = refl
case_same f g id (arm ∷ arms) make h e = ap make (arms_same f g id arm arms h.0 h.1 e)

-- A binding is made of its terms.
binding_same : (f g : ℕ → Line) (id : ℕ) (c : BindingNode) → BindingBelow c id
    → ((a : ℕ) → a < id → f a ≡ g a) → binding_from f c ≡ binding_from g c
binding_same f g id (b.NewRegion r) h e = refl
binding_same f g id (b.NewPlace l q) h e = refl
binding_same f g id (b.Let side) h e = (λ k. LetIn (Be side.name side.ty side.mark (e side.line.0 h k)))
binding_same f g id (b.Par l m r) h e = (λ k. ParIn (Be l.name l.ty l.mark (e l.line.0 h.0 k)) m (Be r.name r.ty r.mark (e r.line.0 h.1 k)))
binding_same f g id (b.Operation x w y o z) h e = refl
binding_same f g id (b.Reach y way) h e = refl

-- A node is made of the trees of its parts.
pub layer_same_if : IsOfParts PartsBelow layer
layer_same_if f g id None below e = refl
layer_same_if f g id (Some (n.In p c a)) below e = let h = below (n.In p c a) refl in (λ k. In p (binding_same f g id c h.0 e k) (e a.0 h.1 k))
layer_same_if f g id (Some (n.Give p x)) below e = refl
layer_same_if f g id (Some (n.Point p x m)) below e = refl
layer_same_if f g id (Some (n.Call h xs m)) below e = refl
layer_same_if f g id (Some (n.Make h m xs)) below e = refl
layer_same_if f g id (Some (n.Case p x arms)) below e = case_same f g id arms.items (Cased p x) (below (n.Case p x arms) refl) e
layer_same_if f g id (Some (n.If p x t u)) below e = let h = below (n.If p x t u) refl in (λ k. Chosen p x (e t.0 h.0 k) (e u.0 h.1 k))
