-- Each move of a fork keeps the rule.
use Rattle.std.proofs.Common.{◌≡◌, ◌≢◌, ℕ, zero, suc, true, false, true≢false, List, [], ◌∷◌, ◌++◌, map, set, sym, refl, ap, ◌∙◌, subst, ⊎_elim, append_assoc}
use mathlib.Core.List.{map-append}
use mathlib.Core.Option.{some, some-injective, some-ne-none}
use lib.ListN.{get_elem?}
use Rattle.crossbeam_deque.specs.Tasks.{Pushes, Takes, Pops, Admits}
use Rattle.crossbeam_deque.proofs.Lists.{at_set, at_snoc}
use Rattle.gib_frame.specs.declared.due.Due.{Due}
use Rattle.gib_frame.specs.TaskParts.{TaskParts}
use Rattle.gib_pool.specs.declared.forks.Stack.{Stack}
use Rattle.gib_pool.specs.Stacks.{own, guest, due_of, Stacked, Pushed, Popped, Stole}

abbrev Sure : ℕ → List Due → List TaskParts → ℕ → Stack → Type 0
Sure port gone items j v = v.owner ≡ true → (j ≡ port) × (v.mine ≡ gone ++ map due_of items)

all_set : (F : ℕ → Stack → Type 0) (views : List Stack) (port : ℕ) (w : Stack) → F port w → ((j : ℕ) (u : Stack) → j ≢ port → get_elem? views j ≡ some u → F j u) → (j : ℕ) (u : Stack) → get_elem? (set views port w) j ≡ some u → F j u
all_set F views port w mine others j u e = ⊎_elim (λ (x : (j ≡ port) × (w ≡ u)). subst (λ (y : ℕ × Stack). F y.0 y.1) (λ i. (sym x.0 i, x.1 i)) mine)
    (λ (x : (j ≢ port) × (get_elem? views j ≡ some u)). others j u x.0 x.1) (at_set views port j w u e)

only : (F : ℕ → Stack → Type 0) (v : Stack) → F 0 v → (j : ℕ) (u : Stack) → get_elem? (v ∷ []) j ≡ some u → F j u
only F v x zero u e = subst (F 0) (some-injective v u e) x
only F v x (suc j) u e = absurd (some-ne-none u (sym e))

pub begins : Stacked [] (own [] ∷ [])
begins = (0, [], only (Sure 0 [] []) (own []) (λ _. (refl, refl)))

pub pushes : (port : ℕ) (v : Stack) (x : TaskParts) → v.owner ≡ true → Pushes Stacked port v (x ∷ []) (Pushed v (x ∷ []))
pushes port v x may items views h at = let w : Stack = own (v.mine ++ due_of x ∷ []) in let mine = h.2 port v at may in (
  w,
  (
    port,
    h.1,
    all_set (Sure port h.1 (items ++ x ∷ [])) views port w
        (λ _. (refl, ap (λ l. l ++ due_of x ∷ []) mine.1 ∙ (append_assoc h.1 (map due_of items) (due_of x ∷ []) ∙ ap (λ l. h.1 ++ l) (sym (map-append due_of items (x ∷ []))))))
        (λ j u other e o. absurd (other ((h.2 j u e o).0 ∙ sym mine.0))),
  ),
  refl,
)

pub pops : (port : ℕ) (v : Stack) → v.owner ≡ true → Pops Stacked port v (Popped v)
pops port v may x items views h at = let mine = h.2 port v at may in let w : Stack = own (h.1 ++ map due_of items) in (
  w,
  (
    port,
    h.1,
    all_set (Sure port h.1 items) views port w (λ _. (refl, refl)) (λ j u other e o. absurd (other ((h.2 j u e o).0 ∙ sym mine.0))),
  ),
  (refl, mine.1 ∙ (ap (λ l. h.1 ++ l) (map-append due_of items (x ∷ [])) ∙ sym (append_assoc h.1 (map due_of items) (due_of x ∷ [])))),
)

pub steals : (port : ℕ) (v : Stack) → v.owner ≡ false → Takes Stacked port v 1 (Stole v)
steals port v not_mine xs items views _ _ h at = (
  v,
  (
    h.0,
    h.1 ++ map due_of xs,
    all_set (Sure h.0 (h.1 ++ map due_of xs) items) views port v (λ o. absurd (true≢false (sym o ∙ not_mine)))
        (λ j u other e o. let m = h.2 j u e o in (m.0, m.1 ∙ (ap (λ l. h.1 ++ l) (map-append due_of xs items) ∙ sym (append_assoc h.1 (map due_of xs) (map due_of items))))),
  ),
  refl,
)

pub admits : Admits Stacked guest
admits items views h = (h.0, h.1, λ j v e o. ⊎_elim (λ k. h.2 j v k o) (λ (t : guest ≡ v). absurd (true≢false (sym o ∙ ap (λ (z : Stack). z.owner) (sym t)))) (at_snoc views guest v j e))
