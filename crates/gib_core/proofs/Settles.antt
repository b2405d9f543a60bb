-- The ended parameters stay as they are.
use Rattle.std.proofs.Common.{◌≡◌, ℕ, zero, suc, ◌≤◌, ◌<◌, Bool, true, false, cond, List, [], ◌∷◌, length, filter, refl, sym, ap, subst, ◌∙◌, arith}
use Rattle.std.proofs.lemmas.Bool.{true≢false}
use Rattle.gib_core.specs.Tree.{CoreTree}
use Rattle.gib_core.specs.Ending.{Ended, stays_ended, narrowed, settled}

pub shorter : (p : Ended → Bool) (es : List Ended) → length (filter p es) ≤ length es
shorter p [] = omega arith
shorter p (e ∷ es) = go (p e) (shorter p es)
  where
    go : (b : Bool) → length (filter p es) ≤ length es → length (cond b (e ∷ filter p es) (filter p es)) ≤ suc (length es)
    go true h = omega (arith, h)
    go false h = omega (arith, h)

all_stay : (p : Ended → Bool) (es : List Ended) → length (filter p es) ≡ length es → filter p es ≡ es
all_stay p [] h = refl
all_stay p (e ∷ es) h = go (p e) h (λ g. all_stay p es g)
  where
    go : (b : Bool) → length (cond b (e ∷ filter p es) (filter p es)) ≡ suc (length es) → (length (filter p es) ≡ length es → filter p es ≡ es) → cond b (e ∷ filter p es) (filter p es) ≡ e ∷ es
    go true g r = ap (λ (q : List Ended). e ∷ q) (r (omega (arith, g)))
    go false g r = absurd (let s = shorter p es in omega (arith, s, g))

stays : (core : CoreTree) (n : ℕ) (es : List Ended) → narrowed core es ≡ es → settled core n es ≡ es
stays core zero es h = refl
stays core (suc n) es h = ap (settled core n) h ∙ stays core n es h

-- Where as many are left as before, the set is settled.
pub stays_so : (core : CoreTree) (n : ℕ) (es kept : List Ended) → kept ≡ narrowed core es → length kept ≡ length es → settled core n es ≡ es
stays_so core n es kept e h = stays core n es (all_stay (stays_ended core es) es (ap (λ (q : List Ended). length q) (sym e) ∙ h))

-- Each of them is known to be ended where they are.
pub settles : (core : CoreTree) (n : ℕ) (es : List Ended) → length es ≤ n → narrowed core (settled core n es) ≡ settled core n es
settles core zero [] h = refl
settles core zero (e ∷ es) h = absurd (omega (arith, h))
settles core (suc n) es h = go (Rattle.std.proofs.Common.eqb (length (narrowed core es)) (length es)) refl (λ g. settles core n (narrowed core es) g)
  where
    go : (b : Bool) → Rattle.std.proofs.Common.eqb (length (narrowed core es)) (length es) ≡ b → (length (narrowed core es) ≤ n → narrowed core (settled core n (narrowed core es)) ≡ settled core n (narrowed core es)) → narrowed core (settled core n (narrowed core es)) ≡ settled core n (narrowed core es)
    go true e r =
        let same = all_stay (stays_ended core es) es (Rattle.std.proofs.lemmas.Bool.eqb-true (length (narrowed core es)) (length es) e) in
        subst (λ (q : List Ended). narrowed core q ≡ q) (sym (ap (settled core n) same ∙ stays core n es same)) same
    go false e r = r (less (shorter (stays_ended core es) es) (λ q. absurd (true≢false (sym (Rattle.std.proofs.lemmas.Bool.eq-eqb (length (narrowed core es)) (length es) q) ∙ e))))
      where
        less : length (narrowed core es) ≤ length es → (length (narrowed core es) ≡ length es → ⊥) → length (narrowed core es) ≤ n
        less a b = omega (arith, a, b, h)
