-- How often variables were used.
use Rattle.std.proofs.Common.{◌≡◌, ℕ, ◌+◌, ◌≤◌, Bool, true, false, ◌==◌, if◌then◌else◌, List, [], ◌∷◌, length, drop, get_or, Option, refl, sym, ap, ◌∙◌, subst, arith}
use Rattle.std.proofs.lemmas.Bool.{eqb-true}
use Rattle.std.proofs.lemmas.List.{drop_more, drop_all}
use Rattle.gib_core.specs.declared.atom.Variable.{Variable}
use Rattle.gib_core.specs.Tree.{Term}
use Rattle.gib_core.specs.declared.mentions.Mention.{Mention}
use Rattle.gib_core.specs.Mentioned.{use_of, uses_in}
use Rattle.gib_core.specs.Counting.{count, is_once, Adds}
use Rattle.gib_core.specs.ByVariable.{number_at}

pub adds_none : (old : List (Option ℕ)) → Adds old old (λ x. 0)
adds_none old = record { each = λ x. omega arith }

pub adds_then : (a b c : List (Option ℕ)) (u v w : Variable → ℕ) → Adds a b u → Adds b c v → ((x : Variable) → w x ≡ v x + u x) → Adds a c w
adds_then a b c u v w p q e = record { each = λ x. let f = p.each x in let g = q.each x in let h = e x in omega arith }

pub adds_same : (a b : List (Option ℕ)) (u v : Variable → ℕ) → ((x : Variable) → u x ≡ v x) → Adds a b u → Adds a b v
adds_same a b u v e p = record { each = λ x. let f = p.each x in let h = e x in omega arith }

pub add_one : (old new : List (Option ℕ)) (x : Variable) (uses : ℕ) → uses ≡ number_at old x.0 + 1 → ((other : ℕ) → number_at new other ≡ (if x.0 == other then uses else number_at old other)) → Adds old new (λ y. if x.0 == y.0 then 1 else 0)
add_one old new x uses u s = record { each = λ y. s y.0 ∙ go y (x.0 == y.0) refl }
  where
    go : (y : Variable) (b : Bool) → (x.0 == y.0) ≡ b → (if b then uses else number_at old y.0) ≡ number_at old y.0 + (if b then 1 else 0)
    go y true e = u ∙ ap (λ k. number_at old k + 1) (eqb-true x.0 y.0 e)
    go y false e = omega arith

pub mentions_next : (a b c : List (Option ℕ)) (ms : List Mention) (m d : Mention) (i j : ℕ) → j ≡ i + 1 → j ≤ length ms → m ≡ get_or ms i d → Adds a b (uses_in (drop j ms)) → Adds b c (use_of m) → Adds a c (uses_in (drop i ms))
mentions_next a b c ms m d i j ej le e p q =
    let left : drop i ms ≡ m ∷ drop (i + 1) ms = drop_more ms i d (omega (arith, ej, le)) ∙ ap (λ (z : Mention). z ∷ drop (i + 1) ms) (sym e) in
    adds_then a b c (uses_in (drop j ms)) (use_of m) (uses_in (drop i ms)) p q (λ x. ap (λ l. uses_in l x) left ∙ ap (λ k. use_of m x + uses_in (drop k ms) x) (sym ej))

pub mentions_start : (ms : List Mention) (n : ℕ) → n ≡ length ms → Adds [] [] (uses_in (drop n ms))
mentions_start ms n e = subst (λ (l : List Mention). Adds [] [] (uses_in l)) (sym (drop_all n ms (let l = e in omega arith))) (adds_none [])

pub mentions_end : (a : List (Option ℕ)) (ms : List Mention) (i : ℕ) → i ≡ 0 → Adds [] a (uses_in (drop i ms)) → Adds [] a (uses_in ms)
mentions_end a ms i e p = subst (λ (k : ℕ). Adds [] a (uses_in (drop k ms))) e p

-- A tally of a body, begun with no uses, tells what the body uses once.
pub once_told : (body : Term) (tally : List (Option ℕ)) (x : Variable) → Adds [] tally (count body) → (number_at tally x.0 == 1) ≡ is_once body x
once_told body tally x h =
    let none : number_at [] x.0 + count body x ≡ count body x = omega arith in
    ap (λ n. n == 1) (h.each x ∙ none)
