-- The newest frame is gone, and the others are as they were.
use Rattle.std.proofs.Common.{◌≡◌, ℕ, zero, suc, ◌+◌, ◌<◌, List, [], ◌∷◌, ◌++◌, length, length-append, ◌⊎◌, inl, inr, refl, sym, ap, subst, ◌∙◌, arith}
use Rattle.std.specs.Prelude.{Option, Some, None}
use Rattle.gib_core.specs.Cost.{Cost}
use Rattle.gib_core.specs.LoweredParts.{LoweredParts}
use Rattle.gib_arena.specs.declared.view.View.{View}
use Rattle.gib_arena.specs.Bytes.{share}
use Rattle.gib_frame.specs.declared.due.Due.{Due}
use Rattle.gib_frame.specs.declared.ends.Frame.{Frame}
use Rattle.gib_pool.specs.declared.back.Back.{Back}
use Rattle.gib_pool.specs.declared.back.Back.TheVariants.{Take, Answer, Full}
use Rattle.gib_pool.specs.Backs.{IsBack, IsLatest}
use Rattle.gib_pool.specs.Frames.{due_maybe, before, lent_of, AreHere}
use Rattle.gib_pool.specs.Turn.{Pays}
use Rattle.gib_pool.proofs.Paid.{pays_less, pays_joined}

pub last_first : (xs : List (Option Frame)) (x : Option Frame) (es : List (Option Due)) → before (xs ++ x ∷ []) es ≡ due_maybe x ∷ before xs es
last_first [] x es = refl
last_first (y ∷ xs) x es = last_first xs x (due_maybe y ∷ es)

init_is : {A : Type 0} (xs ys : List A) (x : A) → xs ++ x ∷ [] ≡ ys ++ x ∷ [] → xs ≡ ys
init_is [] [] x e = refl
init_is [] (b ∷ ys) x e = let l = ap length e in absurd (omega (arith, length-append ys (x ∷ [])))
init_is (a ∷ xs) [] x e = let l = ap length e in absurd (omega (arith, length-append xs (x ∷ [])))
init_is (a ∷ xs) (b ∷ ys) x e = let h : a ≡ b = cc in let t : xs ++ x ∷ [] ≡ ys ++ x ∷ [] = cc in let r = init_is xs ys x t in cc

pub here_latest : (e : Due) (es : List (Option Due)) (n : ℕ) (mine : List Due) → AreHere (Some e ∷ es) n mine → 0 < n → IsLatest mine e
here_latest e es zero mine a l = absurd (omega (arith, l))
here_latest e es (suc n) mine a l = (a.0, a.1)

none_here : (es : List (Option Due)) (mine : List Due) → AreHere es 0 mine
none_here [] mine = tt
none_here (None ∷ es) mine = none_here es mine
none_here (Some e ∷ es) mine = tt

zero_here : (es : List (Option Due)) (n : ℕ) (mine : List Due) → n ≡ 0 → AreHere es n mine
zero_here es n mine z = subst (λ k. AreHere es k mine) (sym z) (none_here es mine)

took : (e : Due) (es : List (Option Due)) (n k : ℕ) (mine more : List Due) → n ≡ k + 1 → mine ≡ more ++ e ∷ [] → AreHere (Some e ∷ es) n mine → AreHere es k more
took e es zero k mine more s p a = absurd (omega (arith, s))
took e es (suc n) k mine more s p a = let same : n ≡ k = omega (arith, s) in subst (λ i. AreHere es i more) same (subst (AreHere es n) (init_is a.0 more e (sym a.1 ∙ p)) a.2)

here_took : (e : Due) (es : List (Option Due)) (n k : ℕ) (mine more : List Due) → ((n ≡ k + 1) × (mine ≡ more ++ e ∷ [])) ⊎ ((k ≡ 0) × (more ≡ mine)) → AreHere (Some e ∷ es) n mine → AreHere es k more
here_took e es n k mine more (inl b) a = took e es n k mine more b.0 b.1 a
here_took e es n k mine more (inr b) a = zero_here es k more b.0

pub here_after : (e : Due) (es : List (Option Due)) (u v : View) (n k : ℕ) (mine more : List Due) (r : Back) → IsBack e u v mine more n k r → AreHere (Some e ∷ es) n mine → AreHere es k more
here_after e es u v n k mine more Take b a = here_took e es n k mine more b.1 a
here_after e es u v n k mine more (Answer x) b a = zero_here es k more b.1
here_after e es u v n k mine more Full b a = zero_here es k more b.1

-- What the pass drew is paid for, with the newest side's.
pub pays_after : (l : LoweredParts) (most : Cost) (e : Due) (es : List (Option Due)) (u v : View) (n k : ℕ) (mine more : List Due) (r : Back) → IsBack e u v mine more n k r
    → Pays l most (share u.holding) (Some e ∷ es) → Pays l most (share v.holding) es
pays_after l most e es u v n k mine more Take b p = subst (λ (i : ℕ). Pays l most i es) (sym b.0) (pays_less l most (share u.holding) (Some e) es p)
pays_after l most e es u v n k mine more (Answer x) b p = subst (λ (i : ℕ). Pays l most i es) (sym b.3) (pays_joined l most (share u.holding) b.0 e es p b.4.paid)
pays_after l most e es u v n k mine more Full b p = subst (λ (i : ℕ). Pays l most i es) (sym b.3) (pays_joined l most (share u.holding) b.0 e es p b.5)

pub now_lent : (xs ys : List (Option Frame)) (x z : Option Frame) → xs ≡ ys ++ x ∷ [] → x ≡ z → lent_of xs ≡ due_maybe z ∷ lent_of ys
now_lent xs ys x z e s = ap lent_of e ∙ (last_first ys x [] ∙ ap (λ h. due_maybe h ∷ lent_of ys) s)
