-- Functions by their numbers.
use Rattle.std.proofs.Common.{◌≡◌, ℕ, zero, suc, Bool, true, false, cond, eqb, List, [], ◌∷◌, map, length, Option, Some, None, refl, sym, ap, ◌∙◌, subst, arith, slice_get}
use Rattle.std.proofs.lemmas.List.{length-map}
use Rattle.gib_syntax.specs.declared.tree.FunctionDecl.{FunctionDecl}
use Rattle.gib_syntax.specs.Tree.{Expression, FunctionTree}
use Rattle.gib_syntax.specs.Arena.{tree_of}
use Rattle.gib_syntax.specs.Parts.{Parts, function_tree}
use Rattle.gib_syntax.specs.Declarations.{place_of, next_place, function_named}
use Rattle.gib_check.specs.declared.functions.FunctionHead.{FunctionHead}
use Rattle.gib_check.specs.Functions.{Head, head_of, head_in, IsNumberOf, IsHeadOf}
use Rattle.gib_check.specs.Views.{function_name, functions_in, table_in, types_in}
use Rattle.gib_check.proofs.Different.{place_within}

-- What a place among functions says of the function of the name.
abbrev At : (ℕ → Expression) → List FunctionDecl → Option ℕ → Option FunctionTree → Type 0
At f ds None p = p ≡ None
At f ds (Some i) p = slice_get (map (function_tree f) ds) i ≡ p

at_more : (f : ℕ → Expression) (b : Bool) (d : FunctionDecl) (ds : List FunctionDecl) (o : Option ℕ) (p : Option FunctionTree) → At f ds o p → At f (d ∷ ds) (cond b (Some 0) (next_place o)) (cond b (Some (function_tree f d)) p)
at_more f true d ds o p h = refl
at_more f false d ds None p h = h
at_more f false d ds (Some i) p h = h

at_all : (f : ℕ → Expression) (ds : List FunctionDecl) (x : ℕ) → At f ds (place_of (map function_name ds) x) (function_named (map (function_tree f) ds) x)
at_all f [] x = refl
at_all f (d ∷ ds) x = at_more f (eqb (function_name d) x) d ds (place_of (map function_name ds) x) (function_named (map (function_tree f) ds) x) (at_all f ds x)

-- The function at the first place of its name.
pub number_found : (parts : Parts) (names : List ℕ) (x i : ℕ) (o : Option ℕ) → names ≡ map function_name parts.functions → o ≡ place_of names x → o ≡ Some i → IsNumberOf (functions_in parts) x i
number_found parts names x i o en eo e =
    let at : place_of (map function_name parts.functions) x ≡ Some i = ap (λ z. place_of z x) (sym en) ∙ sym eo ∙ e in
    let lt = place_within (map function_name parts.functions) x i at in
    record {
      within = omega (arith, lt, length-map parts.functions function_name, length-map parts.functions (function_tree (tree_of parts.exprs)));
      is = subst (λ z. At (tree_of parts.exprs) parts.functions z (function_named (functions_in parts) x)) at (at_all (tree_of parts.exprs) parts.functions x);
    }

-- No function has the name.
pub number_none : (parts : Parts) (names : List ℕ) (x : ℕ) (o : Option ℕ) → names ≡ map function_name parts.functions → o ≡ place_of names x → o ≡ None → function_named (functions_in parts) x ≡ None
number_none parts names x o en eo e =
    subst (λ z. At (tree_of parts.exprs) parts.functions z (function_named (functions_in parts) x)) (ap (λ z. place_of z x) (sym en) ∙ sym eo ∙ e) (at_all (tree_of parts.exprs) parts.functions x)

-- The head at the place of a function is the function's.
pub head_is : (parts : Parts) (heads : List FunctionHead) (id : ℕ) (h : FunctionHead) → map head_of heads ≡ map (head_in (types_in parts)) parts.functions → slice_get heads id ≡ Some h → (function : FunctionTree) → slice_get (functions_in parts) id ≡ Some function → IsHeadOf (table_in parts) function h
head_is parts heads id h same at function is = go parts.functions heads same id at is where
  go : (ds : List FunctionDecl) (hs : List FunctionHead) → map head_of hs ≡ map (head_in (types_in parts)) ds → (i : ℕ) → slice_get hs i ≡ Some h → slice_get (map (function_tree (tree_of parts.exprs)) ds) i ≡ Some function → IsHeadOf (table_in parts) function h
  go [] hs e i a b = absurd cc
  go (d ∷ ds) [] e i a b = absurd cc
  go (d ∷ ds) (k ∷ hs) e zero a b =
      let ek : k ≡ h = cc in
      let ed : function_tree (tree_of parts.exprs) d ≡ function = cc in
      let eh : head_of k ≡ head_in (types_in parts) d = cc in
      subst (λ (z : FunctionHead). IsHeadOf (table_in parts) function z) ek
      (subst (λ (z : FunctionTree). IsHeadOf (table_in parts) z k) ed
      (record { parameters = ap (λ (z : Head). z.parameters) eh; result = ap (λ (z : Head). z.result) eh }))
  go (d ∷ ds) (k ∷ hs) e (suc i) a b = go ds hs (let t : map head_of hs ≡ map (head_in (types_in parts)) ds = cc in t) i a b

-- There are as many heads as functions.
pub heads_long : (parts : Parts) (heads : List FunctionHead) → map head_of heads ≡ map (head_in (types_in parts)) parts.functions → length heads ≡ length (functions_in parts)
heads_long parts heads e =
    sym (length-map heads head_of) ∙ ap (λ (z : List Head). length z) e ∙ length-map parts.functions (head_in (types_in parts)) ∙ sym (length-map parts.functions (function_tree (tree_of parts.exprs)))
