-- Terms that stay while others are put behind them, and bindings that are put in front of a term, the last one first.
use Rattle.std.proofs.Common.{◌≡◌, ℕ, ◌<◌, ◌≤◌, List, [], ◌∷◌, ◌++◌, length, Some, refl, sym, ap, ◌∙◌, arith}
use Rattle.std.specs.List.{AllByRecursion}
use Rattle.gib_core.specs.Tree.{Term, Then, prepend}
use Rattle.gib_core.specs.declared.node.TermId.{TermId}
use Rattle.gib_core.specs.declared.node.Node.{Node}
use Rattle.gib_core.specs.declared.node.Node.TheVariants as n
use Rattle.gib_core.specs.declared.node.Binding.{Binding}
use Rattle.gib_core.specs.declared.node.Branch.{Branch}
use Rattle.gib_core.specs.Arena.{Grows, Makes, IsBindingBelow, IsBranchBelow, IsPartBelow, bind_from, binds_from, parts_from, branches_from, layer, term_of}
use Rattle.gib_core.specs.ArenaLaws.{parts_same_below, branches_same_below}
use Rattle.gib_core.proofs.Layers.{binds_same_below}
use Rattle.gib_core.proofs.Lining.{binding_below_more}

-- Some of the bindings stand in front already.
pub record Fronts (old new : List Node) (all left : List Binding) (rest term : TermId) : Type 0 where
  pub grows : Grows old new
  pub bindings : AllByRecursion (IsBindingBelow (length new)) left
  pub inside : term.0 < length new
  pub same : prepend (binds_from (term_of new) left) (term_of new term.0) ≡ prepend (binds_from (term_of old) all) (term_of old rest.0)

pub below_more : (n m : ℕ) (bs : List Binding) → n ≤ m → AllByRecursion (IsBindingBelow n) bs → AllByRecursion (IsBindingBelow m) bs
below_more n m [] le p = tt
below_more n m (x ∷ bs) le p = (binding_below_more n m x le p.0, below_more n m bs le p.1)

below_front : (n : ℕ) (bs : List Binding) (x : Binding) → AllByRecursion (IsBindingBelow n) (bs ++ x ∷ []) → AllByRecursion (IsBindingBelow n) bs
below_front n [] x p = tt
below_front n (y ∷ bs) x p = (p.0, below_front n bs x p.1)

pub branches_below_more : (n m : ℕ) (bs : List Branch) → n ≤ m → AllByRecursion (IsBranchBelow n) bs → AllByRecursion (IsBranchBelow m) bs
branches_below_more n m [] le p = tt
branches_below_more n m (x ∷ bs) le p = (let q = p.0 in omega arith, branches_below_more n m bs le p.1)

pub branches_below_push : (n : ℕ) (bs : List Branch) (x : Branch) → AllByRecursion (IsBranchBelow n) bs → IsBranchBelow n x → AllByRecursion (IsBranchBelow n) (bs ++ x ∷ [])
branches_below_push n [] x p q = (q, tt)
branches_below_push n (y ∷ bs) x p q = (p.0, branches_below_push n bs x p.1 q)

pub parts_below_more : (n m : ℕ) (ts : List TermId) → n ≤ m → AllByRecursion (IsPartBelow n) ts → AllByRecursion (IsPartBelow m) ts
parts_below_more n m [] le p = tt
parts_below_more n m (t ∷ ts) le p = (let q = p.0 in omega arith, parts_below_more n m ts le p.1)

pub parts_below_push : (n : ℕ) (ts : List TermId) (t : TermId) → AllByRecursion (IsPartBelow n) ts → IsPartBelow n t → AllByRecursion (IsPartBelow n) (ts ++ t ∷ [])
parts_below_push n [] t p q = (q, tt)
parts_below_push n (u ∷ ts) t p q = (p.0, parts_below_push n ts t p.1 q)

prepend-last : (f : ℕ → Term) (bs : List Binding) (x : Binding) (t : Term) → prepend (binds_from f (bs ++ x ∷ [])) t ≡ prepend (binds_from f bs) (Then (bind_from f x) t)
prepend-last f [] x t = refl
prepend-last f (y ∷ bs) x t = ap (Then (bind_from f y)) (prepend-last f bs x t)

-- Bindings keep their terms.
pub binds_same : (old new : List Node) (bs : List Binding) → Grows old new → AllByRecursion (IsBindingBelow (length old)) bs → binds_from (term_of new) bs ≡ binds_from (term_of old) bs
binds_same old new bs g p = binds_same_below (term_of new) (term_of old) (length old) bs p g.same

-- Branches keep their terms.
pub branches_same : (old new : List Node) (bs : List Branch) → Grows old new → AllByRecursion (IsBranchBelow (length old)) bs → branches_from (term_of new) bs ≡ branches_from (term_of old) bs
branches_same old new bs g p = branches_same_below (term_of new) (term_of old) (length old) bs p g.same

-- Parts keep their terms.
pub parts_same : (old new : List Node) (ts : List TermId) → Grows old new → AllByRecursion (IsPartBelow (length old)) ts → parts_from (term_of new) ts ≡ parts_from (term_of old) ts
parts_same old new ts g p = parts_same_below (term_of new) (term_of old) (length old) ts p g.same

pub grows_more : (a b c : List Node) → Grows a b → Grows b c → Grows a c
grows_more a b c p q = record { longer = (let l = p.longer in let m = q.longer in omega arith); same = λ id lt. (let l = p.longer in q.same id (omega arith)) ∙ p.same id lt }

pub grows_none : (a : List Node) → Grows a a
grows_none a = record { longer = omega arith; same = λ id lt. refl }

pub fronts_start : (old : List Node) (all : List Binding) (rest : TermId) → AllByRecursion (IsBindingBelow (length old)) all → rest.0 < length old → Fronts old old all all rest rest
fronts_start old all rest b lt = record { grows = grows_none old; bindings = b; inside = lt; same = refl }

pub fronts_more : (old mid new : List Node) (all left : List Binding) (x : Binding) (rest t u : TermId) → Fronts old mid all (left ++ x ∷ []) rest t → Makes mid new u.0 (n.Then x t) → Fronts old new all left rest u
fronts_more old mid new all left x rest t u h p =
    let b = below_front (length mid) left x h.bindings in
    record {
      grows = grows_more old mid new h.grows p.grows;
      bindings = below_more (length mid) (length new) left p.grows.longer b;
      inside = p.inside;
      same = (λ i. prepend (binds_same mid new left p.grows b i) (p.term i)) ∙ sym (prepend-last (term_of mid) left x (term_of mid t.0)) ∙ h.same;
    }

pub line_made : (old mid new : List Node) (bs : List Binding) (term top : TermId) (end : Node)
    → AllByRecursion (IsBindingBelow (length old)) bs → Makes old mid term.0 end → term_of new top.0 ≡ prepend (binds_from (term_of mid) bs) (term_of mid term.0)
    → term_of new top.0 ≡ prepend (binds_from (term_of old) bs) (layer (term_of old) (Some end))
line_made old mid new bs term top end below p e = e ∙ (λ i. prepend (binds_same old mid bs p.grows below i) (p.term i))
