-- The bindings of a line, one after another, and its end.
use Rattle.std.proofs.Common.{◌≡◌, ℕ, ◌<◌, ◌≤◌, List, [], ◌∷◌, ◌++◌, Some, refl, sym, ap, ◌∙◌, subst, arith}
use Rattle.std.proofs.lemmas.List.{map-append}
use Rattle.std.specs.List.{AllByRecursion}
use Rattle.gib_core.specs.declared.node.Node.{Node}
use Rattle.gib_core.specs.declared.node.Node.TheVariants as n
use Rattle.gib_core.specs.declared.node.Binding.{Binding}
use Rattle.gib_core.specs.declared.node.Binding.TheVariants as b
use Rattle.gib_core.specs.declared.node.TermId.{TermId}
use Rattle.gib_core.specs.Tree.{Term, Bind, Then, prepend}
use Rattle.gib_core.specs.Arena.{Opens, PartsBelow, IsBindingBelow, IsEnd, IsLine, term_of, bind_from, binds_from, layer}

-- These bindings stand before the term of a number in a line.
pub record LineSoFar (nodes : List Node) (id : ℕ) (bindings : List Binding) (rest : ℕ) (node : Node) : Type 0 where
  pub term : term_of nodes id ≡ prepend (binds_from (term_of nodes) bindings) (term_of nodes rest)
  pub below : AllByRecursion (IsBindingBelow id) bindings
  pub within : rest ≤ id
  pub opens : Opens nodes rest node

-- What stands below a number stands below each that is no smaller.
pub binding_below_more : (low id : ℕ) (x : Binding) → low ≤ id → IsBindingBelow low x → IsBindingBelow id x
binding_below_more low id (b.Past h k) le below = tt
binding_below_more low id (b.One s) le below = omega (arith, below)
binding_below_more low id (b.Par fork s r) le below = (omega (arith, below.0), omega (arith, below.1))
binding_below_more low id (b.Prim x op y z) le below = tt
binding_below_more low id (b.Reach y by) le below = tt

pub below_push : (id : ℕ) (bs : List Binding) (x : Binding) → AllByRecursion (IsBindingBelow id) bs → IsBindingBelow id x → AllByRecursion (IsBindingBelow id) (bs ++ x ∷ [])
below_push id [] x h below = (below, tt)
below_push id (y ∷ bs) x h below = (h.0, below_push id bs x h.1 below)

pub prepend-append : (xs ys : List Bind) (t : Term) → prepend (xs ++ ys) t ≡ prepend xs (prepend ys t)
prepend-append [] ys t = refl
prepend-append (x ∷ xs) ys t = ap (Then x) (prepend-append xs ys t)

pub line_first : (nodes : List Node) (id : ℕ) (node : Node) → Opens nodes id node → LineSoFar nodes id [] id node
line_first nodes id node opens = record { term = refl; below = tt; within = omega arith; opens = opens }

pub line_next : (nodes : List Node) (id rest : ℕ) (bindings now : List Binding) (node new : Node) (x : Binding) (after : TermId)
    → LineSoFar nodes id bindings rest node → node ≡ n.Then x after → now ≡ bindings ++ x ∷ [] → Opens nodes after.0 new
    → LineSoFar nodes id now after.0 new
line_next nodes id rest bindings now node new x after so is put opens =
    let f = term_of nodes in
    let parts : IsBindingBelow rest x × (after.0 < rest) = subst (λ (z : Node). PartsBelow z rest) is so.opens.1 in
    let opened : f rest ≡ Then (bind_from f x) (f after.0) = so.opens.0 ∙ ap (λ (z : Node). layer f (Some z)) is in
    let P : List Binding → Type 0 = λ bs. LineSoFar nodes id bs after.0 new in
    subst P (sym put) (record {
      term = so.term
          ∙ ap (prepend (binds_from f bindings)) opened
          ∙ sym (prepend-append (binds_from f bindings) (bind_from f x ∷ []) (f after.0))
          ∙ ap (λ (bs : List Bind). prepend bs (f after.0)) (sym (map-append (bind_from f) bindings (x ∷ [])));
      below = below_push id bindings x so.below (binding_below_more rest id x so.within parts.0);
      within = omega (arith, parts.1, so.within);
      opens = opens;
    })

pub line_last : (nodes : List Node) (id rest : ℕ) (bindings : List Binding) (node : Node) → LineSoFar nodes id bindings rest node → IsEnd (layer (term_of nodes) (Some node)) → IsLine nodes id bindings rest
line_last nodes id rest bindings node so ends = record { term = so.term; below = so.below; within = so.within; ends = subst IsEnd (sym so.opens.0) ends }
