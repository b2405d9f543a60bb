-- A node's tree is made of the trees of its parts alone, over any words.
use Rattle.std.proofs.Common.{◌≡◌, ℕ, ◌<◌, List, [], ◌∷◌, Some, None, refl, ap}
use Rattle.std.specs.List.{AllByRecursion}
use Rattle.gib_nodes.specs.Nodes.{IsOfParts}
use Rattle.gib_syntax.specs.declared.exprs.ExprId.{ExprId}
use Rattle.gib_syntax.specs.declared.exprs.Arm.{Arm}
use Rattle.gib_syntax.specs.declared.generic.GenericNode.TheVariants as n
use Rattle.gib_syntax.specs.declared.written.Word.{Word}
use Rattle.gib_syntax.specs.GenericTree.{GenericExpression as Expression, GenericArms as Arms, GenericParen, GenericOp, GenericCall, GenericMake, GenericLet, GenericPar}
use Rattle.gib_syntax.specs.GenericTree.{GenericIf, GenericCase, GenericTuple, GenericArgument, GenericLastArm, GenericNextArm}
use Rattle.gib_syntax.specs.Words.{types_in}
use Rattle.gib_syntax.specs.GenericArena.{IsArmBelow, ArmsBelow, PartsBelow, arguments_from, arms_from, case_from, layer, layer_of}

-- Arguments are made of the trees of theirs.
arguments_same : (f g : ℕ → Expression) (id : ℕ) (is : List ExprId) → AllByRecursion (λ (a : ExprId). a.0 < id) is
    → ((a : ℕ) → a < id → f a ≡ g a) → arguments_from f is ≡ arguments_from g is
arguments_same f g id [] h e = refl
arguments_same f g id (i ∷ is) h e = (λ k. GenericArgument (e i.0 h.0 k) (arguments_same f g id is h.1 e k))

-- Arms are made of the trees of theirs.
arms_same : (f g : ℕ → Expression) (id : ℕ) (arm : Arm) (arms : List Arm) → arm.body.0 < id → AllByRecursion (IsArmBelow id) arms
    → ((a : ℕ) → a < id → f a ≡ g a) → arms_from f arm arms ≡ arms_from g arm arms
arms_same f g id arm [] h hs e = (λ k. GenericLastArm arm.constructor arm.variables.items (e arm.body.0 h k))
arms_same f g id arm (next ∷ arms) h hs e =
    (λ k. GenericNextArm arm.constructor arm.variables.items (e arm.body.0 h k) (arms_same f g id next arms hs.0 hs.1 e k))

-- So is a case of arms.
case_same : (f g : ℕ → Expression) (id : ℕ) (arms : List Arm) (make : Arms → Expression) → ArmsBelow arms id
    → ((a : ℕ) → a < id → f a ≡ g a) → case_from f arms make ≡ case_from g arms make
case_same f g id [] make h e = refl
case_same f g id (arm ∷ arms) make h e = ap make (arms_same f g id arm arms h.0 h.1 e)

-- A node is made of the trees of its parts.
pub layer_same_if : (words : List Word) → IsOfParts PartsBelow (layer words)
layer_same_if words f g id None below e = refl
layer_same_if words f g id (Some (n.Variable x)) below e = refl
layer_same_if words f g id (Some (n.Whole p v)) below e = refl
layer_same_if words f g id (Some (n.Truth p b)) below e = refl
layer_same_if words f g id (Some (n.Paren p a)) below e = let h = below (n.Paren p a) refl in (λ k. GenericParen p (e a.0 h k))
layer_same_if words f g id (Some (n.Operation p o a b)) below e = let h = below (n.Operation p o a b) refl in (λ k. GenericOp p o (e a.0 h.0 k) (e b.0 h.1 k))
layer_same_if words f g id (Some (n.Call x ws v)) below e =
    ap (GenericCall x (types_in words ws)) (arguments_same f g id v.items (below (n.Call x ws v) refl) e)
layer_same_if words f g id (Some (n.Make x ws v)) below e =
    ap (GenericMake x (types_in words ws)) (arguments_same f g id v.items (below (n.Make x ws v) refl) e)
layer_same_if words f g id (Some (n.Let p xs a b)) below e =
    let h = below (n.Let p xs a b) refl in (λ k. GenericLet p xs (e a.0 h.0 k) (e b.0 h.1 k))
layer_same_if words f g id (Some (n.LetPar p l r b)) below e =
    let h = below (n.LetPar p l r b) refl in (λ k. GenericPar p l.names (e l.value.0 h.0 k) r.names (e r.value.0 h.1 k) (e b.0 h.2 k))
layer_same_if words f g id (Some (n.If p a b c)) below e =
    let h = below (n.If p a b c) refl in (λ k. GenericIf p (e a.0 h.0 k) (e b.0 h.1 k) (e c.0 h.2 k))
layer_same_if words f g id (Some (n.Case p x arms)) below e = case_same f g id arms.items (GenericCase p x) (below (n.Case p x arms) refl) e
layer_same_if words f g id (Some (n.Tuple p xs)) below e = ap (GenericTuple p) (arguments_same f g id xs.items (below (n.Tuple p xs) refl) e)

-- So it is over any words.
pub layer_of_same_if : IsOfParts PartsBelow layer_of
layer_of_same_if f g id o below e = (λ k words. layer_same_if words (λ a. f a words) (λ a. g a words) id o below (λ a lt. ap (λ t. t words) (e a lt)) k)
