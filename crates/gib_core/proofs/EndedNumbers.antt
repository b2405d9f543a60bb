-- The numbers of packed parameters tell them apart.
use Rattle.std.proofs.Common.{◌≡◌, ℕ, ◌+◌, ◌-◌, ◌<◌, ◌≤◌, Bool, true, false, ◌||◌, ◌&&◌, ◌==◌, List, ◌∷◌, length, drop, get_or, refl, sym, ap, subst, ◌∙◌, arith}
use Rattle.std.specs.Prelude.{◌^◌}
use Rattle.std.specs.Ordering.{nat_cmp}
use Rattle.std.specs.BTreeSet.{BTreeSet, contains}
use Rattle.std.proofs.lemmas.List.{drop_more}
use Rattle.std.proofs.lemmas.Bool.{both_ways, eqb-true, eq-eqb, false_from_ne_true}
use Rattle.gib_core.specs.Ending.{Ended}
use Rattle.gib_core.specs.EndedSet.{number_of, HasNumbers}

same_first : (f g k l : ℕ) → k < 2 ^ 32 → l < 2 ^ 32 → number_of f k ≡ number_of g l → f ≡ g
same_first f g k l a b e = omega (arith, a, b, e)

same_second : (f g k l : ℕ) → k < 2 ^ 32 → l < 2 ^ 32 → number_of f k ≡ number_of g l → k ≡ l
same_second f g k l a b e = let h = same_first f g k l a b e in omega (arith, a, b, e, h)

pub number_equal : (f g k l : ℕ) → k < 2 ^ 32 → l < 2 ^ 32 → (number_of f k == number_of g l) ≡ (f == g && k == l)
number_equal f g k l a b = go (f == g) (k == l) refl refl
  where
    go : (p q : Bool) → (f == g) ≡ p → (k == l) ≡ q → (number_of f k == number_of g l) ≡ (p && q)
    go true true e h = eq-eqb (number_of f k) (number_of g l) (λ i. number_of (eqb-true f g e i) (eqb-true k l h i))
    go true false e h = false_from_ne_true (number_of f k == number_of g l) (λ s. both_ways (k == l) h (eq-eqb k l (same_second f g k l a b (eqb-true (number_of f k) (number_of g l) s))))
    go false q e h = false_from_ne_true (number_of f k == number_of g l) (λ s. both_ways (f == g) e (eq-eqb f g (same_first f g k l a b (eqb-true (number_of f k) (number_of g l) s))))

-- One more parameter, before the others.
pub numbers_with : (e : Ended) (es : List Ended) (old new : BTreeSet ℕ) → e.place < 2 ^ 32 → ((q : ℕ) → contains nat_cmp new q ≡ (number_of e.function e.place == q || contains nat_cmp old q)) → HasNumbers old es → HasNumbers new (e ∷ es)
numbers_with e es old new small added h = record {
  near = λ f k lt. added (number_of f k) ∙ (λ i'. number_equal e.function f e.place k small lt i' || h.near f k lt i');
  far = λ f k ge. (λ i'. not_at f k ge i' || h.far f k ge i');
}
  where
    not_at : (f k : ℕ) → 2 ^ 32 ≤ k → (e.function == f && e.place == k) ≡ false
    not_at f k ge = go (e.function == f) (e.place == k) refl
      where
        go : (a b : Bool) → (e.place == k) ≡ b → (a && b) ≡ false
        go false b q = refl
        go true false q = refl
        go true true q = absurd (let w = eqb-true e.place k q in omega (arith, w, small, ge))

-- The parameters from one on are that one and those behind it.
pub numbers_next : (es : List Ended) (j : ℕ) (d : Ended) (new : BTreeSet ℕ) → 0 < j → j ≤ length es → HasNumbers new (get_or es (j - 1) d ∷ drop j es) → HasNumbers new (drop (j - 1) es)
numbers_next es j d new p le h =
    let e : j - 1 + 1 ≡ j = omega (arith, p) in
    subst (λ (zs : List Ended). HasNumbers new zs) (sym (drop_more es (j - 1) d (omega (arith, p, le)) ∙ ap (λ (k : ℕ). get_or es (j - 1) d ∷ drop k es) e)) h
