-- Items taken from a stack.
use Rattle.std.proofs.Common.{◌≡◌, ℕ, zero, suc, ◌-◌, ◌<◌, List, [], ◌∷◌, ◌++◌, take, drop, refl, sym, ap, ◌∙◌, arith, append-nil}

pub record TakenSoFar {T : Type 0} (old now : List T) (count missing : ℕ) (taken : List T) : Type 0 where
  pub items : taken ++ take missing now ≡ take count old
  pub left : drop missing now ≡ drop count old

pub taken_start : {T : Type 0} (old : List T) (count : ℕ) → TakenSoFar old old count count []
taken_start old count = record { items = refl; left = refl }

one_less : (n : ℕ) → 0 < n → n ≡ suc (n - 1)
one_less zero l = absurd (omega (arith, l))
one_less (suc n) l = omega arith

shift : {T : Type 0} (xs : List T) (x : T) (ys : List T) → (xs ++ x ∷ []) ++ ys ≡ xs ++ x ∷ ys
shift [] x ys = refl
shift (z ∷ xs) x ys = ap (λ l. z ∷ l) (shift xs x ys)

pub taken_next : {T : Type 0} (old now next : List T) (count missing : ℕ) (taken more : List T) (x : T) → TakenSoFar old now count missing taken → 0 < missing → now ≡ x ∷ next → more ≡ taken ++ x ∷ [] → TakenSoFar old next count (missing - 1) more
taken_next old now next count missing taken more x h l e f =
    let n = one_less missing l in
    record {
      items = ap (λ l. l ++ take (missing - 1) next) f ∙ shift taken x (take (missing - 1) next) ∙ ap (λ k. taken ++ take k (x ∷ next)) (sym n) ∙ ap (λ l. taken ++ take missing l) (sym e) ∙ h.items;
      left = ap (λ k. drop k (x ∷ next)) (sym n) ∙ ap (drop missing) (sym e) ∙ h.left;
    }

take_none : {T : Type 0} (n : ℕ) → take n (let e : List T = [] in e) ≡ []
take_none zero = refl
take_none (suc n) = refl

drop_none : {T : Type 0} (n : ℕ) → drop n (let e : List T = [] in e) ≡ []
drop_none zero = refl
drop_none (suc n) = refl

pub taken_all : {T : Type 0} (old now : List T) (count missing : ℕ) (taken : List T) → TakenSoFar old now count missing taken → now ≡ [] → (taken ≡ take count old) × (now ≡ drop count old)
taken_all old now count missing taken h e = (
  sym (append-nil taken) ∙ ap (λ l. taken ++ l) (sym (take_none missing)) ∙ ap (λ l. taken ++ take missing l) (sym e) ∙ h.items,
  e ∙ sym (drop_none missing) ∙ ap (drop missing) (sym e) ∙ h.left,
)

pub taken_enough : {T : Type 0} (old now : List T) (count missing : ℕ) (taken : List T) → TakenSoFar old now count missing taken → missing ≡ 0 → (taken ≡ take count old) × (now ≡ drop count old)
taken_enough old now count missing taken h e = (
  sym (append-nil taken) ∙ ap (λ k. taken ++ take k now) (sym e) ∙ h.items,
  ap (λ k. drop k now) (sym e) ∙ h.left,
)
