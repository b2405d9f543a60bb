-- Names in scope, one more and one fewer.
use Rattle.std.proofs.Common.{◌≡◌, ℕ, zero, suc, ◌+◌, ◌-◌, ◌<◌, ◌≤◌, Bool, true, false, cond, eqb, List, [], ◌∷◌, ◌++◌, drop, take, get_or, length, Option, Some, refl, sym, ap, ◌∙◌, subst, arith}
use Rattle.std.proofs.lemmas.Bool.{eqb-true}
use Rattle.std.proofs.lemmas.List.{length-drop}
use Rattle.std.proofs.Math.Seq.{take-length, take-suc}
use Rattle.gib_check.specs.declared.scope.Entry.{Entry}
use Rattle.gib_base.specs.Entries.{entry_at}
use Rattle.gib_check.specs.InScope.{ScopeOf, newest, scope_onto, scope_of, AreHidden, IsScope}

onto-push : {A : Type 0} (scope : ScopeOf A) (vs : List (Entry A)) (v : Entry A) → scope_onto scope (vs ++ v ∷ []) ≡ (v.name.0, v.item) ∷ scope_onto scope vs
onto-push scope [] v = refl
onto-push scope (w ∷ vs) v = onto-push ((w.name.0, w.item) ∷ scope) vs v

pub scope_of-push : {A : Type 0} (vs : List (Entry A)) (v : Entry A) → scope_of (vs ++ v ∷ []) ≡ (v.name.0, v.item) ∷ scope_of vs
scope_of-push vs v = onto-push [] vs v

hidden-push : {A : Type 0} (scope : ScopeOf A) (vs : List (Entry A)) (v : Entry A) → AreHidden scope vs → v.hidden ≡ newest (scope_onto scope vs) v.name.0 → AreHidden scope (vs ++ v ∷ [])
hidden-push scope [] v h e = (e, tt)
hidden-push scope (w ∷ vs) v h e = (h.0, hidden-push ((w.name.0, w.item) ∷ scope) vs v h.1 e)

hidden-front : {A : Type 0} (scope : ScopeOf A) (vs : List (Entry A)) (v : Entry A) → AreHidden scope (vs ++ v ∷ []) → AreHidden scope vs × (v.hidden ≡ newest (scope_onto scope vs) v.name.0)
hidden-front scope [] v h = (tt, h.0)
hidden-front scope (w ∷ vs) v h = let p = hidden-front ((w.name.0, w.item) ∷ scope) vs v h.1 in ((h.0, p.0), p.1)

-- One more name.
pub one_in : {A : Type 0} (vs new : List (Entry A)) (v : Entry A) (found after : List (Option A)) → IsScope vs found → v.hidden ≡ entry_at found v.name.0 → new ≡ vs ++ v ∷ [] → ((n : ℕ) → entry_at after n ≡ cond (eqb v.name.0 n) (Some v.item) (entry_at found n)) → IsScope new after
one_in vs new v found after h eh e put = record {
  each = λ n. put n ∙ ap (λ o. cond (eqb v.name.0 n) (Some v.item) o) (h.each n) ∙ sym (ap (λ z. newest (scope_of z) n) e ∙ ap (λ s. newest s n) (scope_of-push vs v));
  hidden = subst (AreHidden []) (sym e) (hidden-push [] vs v h.hidden (eh ∙ h.each v.name.0));
}

-- The newest name goes.
pub one_out : {A : Type 0} (old vs : List (Entry A)) (v : Entry A) (found after : List (Option A)) → IsScope old found → old ≡ vs ++ v ∷ [] → ((n : ℕ) → entry_at after n ≡ cond (eqb v.name.0 n) v.hidden (entry_at found n)) → IsScope vs after
one_out old vs v found after h e put = record {
  each = λ n. put n ∙ go n (eqb v.name.0 n) refl;
  hidden = p.0;
} where
  p : AreHidden [] vs × (v.hidden ≡ newest (scope_of vs) v.name.0)
  p = hidden-front [] vs v (subst (AreHidden []) e h.hidden)

  here : (n : ℕ) → entry_at found n ≡ newest ((v.name.0, v.item) ∷ scope_of vs) n
  here n = h.each n ∙ ap (λ z. newest (scope_of z) n) e ∙ ap (λ s. newest s n) (scope_of-push vs v)

  go : (n : ℕ) (b : Bool) → eqb v.name.0 n ≡ b → cond b v.hidden (entry_at found n) ≡ newest (scope_of vs) n
  go n true q = p.1 ∙ ap (λ z. newest (scope_of vs) z) (eqb-true v.name.0 n q)
  go n false q = here n ∙ ap (λ b. cond b (Some v.item) (newest (scope_of vs) n)) q

-- The newest name stands behind all others.
pub newest_out : {A : Type 0} (old vs : List (Entry A)) (v : Entry A) (n : ℕ) → 0 < length old → n ≡ length old - 1 → v ≡ get_or old n v → vs ≡ take n old → old ≡ vs ++ v ∷ []
newest_out old vs v n lt e is t =
    sym (ap (λ k. take k old) (let l : suc n ≡ length old = omega arith in l) ∙ take-length old) ∙ take-suc old n v (omega arith) ∙ ap (λ l. l ++ get_or old n v ∷ []) (sym t) ∙ ap (λ x. vs ++ x ∷ []) (sym is)

length-onto : {A : Type 0} (scope : ScopeOf A) (vs : List (Entry A)) → length (scope_onto scope vs) ≡ length scope + length vs
length-onto scope [] = omega arith
length-onto scope (v ∷ vs) = length-onto ((v.name.0, v.item) ∷ scope) vs ∙ omega arith

-- There are as many names in scope as the code keeps.
pub as_many_in : {A : Type 0} (vs : List (Entry A)) (s : ScopeOf A) (n : ℕ) → scope_of vs ≡ s → n ≡ length vs → n ≡ length s
as_many_in {A = A} vs s n e l = l ∙ sym (length-onto [] vs ∙ omega arith) ∙ ap (λ (z : ScopeOf A). length z) e

-- Some of the newest names were taken out.
pub record TakenOut {A : Type 0} (old now : ScopeOf A) (len : ℕ) : Type 0 where
  pub rest : now ≡ drop (length old - length now) old
  pub few : length old - length now ≤ length old - len

pub none_out : {A : Type 0} (old : ScopeOf A) (len : ℕ) → TakenOut old old len
none_out old len = record { rest = sym (let e : length old - length old ≡ 0 = omega arith in ap (λ n. drop n old) e); few = omega arith }

pub more_out : {A : Type 0} (old now new : ScopeOf A) (len : ℕ) → TakenOut old now len → len < length now → new ≡ drop 1 now → TakenOut old new len
more_out {A = A} old now new len h lt e =
    let here : length now ≡ length old - (length old - length now) = ap (λ (z : ScopeOf A). length z) h.rest ∙ length-drop (length old - length now) old in
    let l : length new ≡ length now - 1 = ap (λ (z : ScopeOf A). length z) e ∙ length-drop 1 now in
    let n : (length old - length now) + 1 ≡ length old - length new = omega (arith, here, l, lt) in
    record {
      rest = e ∙ ap (drop 1) h.rest ∙ one_more (length old - length now) old ∙ ap (λ k. drop k old) n;
      few = omega (arith, here, l, lt);
    } where
      one_more : (k : ℕ) (s : ScopeOf A) → drop 1 (drop k s) ≡ drop (k + 1) s
      one_more zero [] = refl
      one_more zero (x ∷ s) = refl
      one_more (suc k) [] = (let e : suc (k + 1) ≡ suc k + 1 = omega arith in ap (λ n. drop n []) e)
      one_more (suc k) (x ∷ s) = one_more k s ∙ (let e : suc (k + 1) ≡ suc k + 1 = omega arith in ap (λ n. drop n (x ∷ s)) e)

pub all_out : {A : Type 0} (old now : ScopeOf A) (len : ℕ) → TakenOut old now len → length now ≤ len → now ≡ drop (length old - len) old
all_out old now len h le = h.rest ∙ (let f = h.few in let e : length old - length now ≡ length old - len = omega (arith, f, le) in ap (λ n. drop n old) e)
