-- Things read one after another.
use Rattle.std.proofs.Common.{◌≡◌, ℕ, zero, suc, ◌<◌, ◌≤◌, Bool, true, false, List, [], ◌∷◌, length, Ok, refl, sym, ap, ◌∙◌, arith}
use Rattle.gib_base.specs.declared.token.Token.{Token}
use Rattle.gib_base.specs.declared.token.Token.TheVariants as t
use Rattle.gib_syntax.specs.Spelling.{Places}
use Rattle.gib_reads.specs.Readers.{At, Read, Reader, then_at, named, var_at, next_is, many_step, many_at, many}
use Rattle.gib_reads.proofs.Tools.{done, Holds, holds_ok, holds_err, then_holds, then_ext}

-- One of each after another, with the tokens between.
abbrev pub Chain : {A : Type 0} → (List Token → A → List Token → Type 0) → List Token → List A → List Token → Type 0
Chain R ts [] rest = ts ≡ rest
Chain R ts (x ∷ xs) rest = (mid : List Token) × R ts x mid × Chain R mid xs rest

step_sound : {A : Type 0} (R : List Token → A → List Token → Type 0) (v : Bool) (p : Reader A) (q : Reader (List A))
    → ((ts : List Token) → Holds (p ts) (R ts)) → ((ts : List Token) → Holds (q ts) (Chain R ts)) → (ts : List Token)
    → Holds (many_step v p q ts) (Chain R ts)
step_sound R false p q h k ts = holds_ok [] ts refl
step_sound R true p q h k ts = then_holds (h ts) (λ a r1 p1. then_holds (k r1) (λ xs r2 p2. holds_ok (a ∷ xs) r2 (r1, p1, p2)))

many_at_sound : {A : Type 0} (R : List Token → A → List Token → Type 0) (n : ℕ) (starts : Token → Bool) (p : Reader A)
    → ((ts : List Token) → Holds (p ts) (R ts)) → (ts : List Token) → Holds (many_at n starts p ts) (Chain R ts)
unfolding many_at
many_at_sound R zero starts p h ts = holds_ok [] ts refl
many_at_sound R (suc n) starts p h ts = step_sound R (next_is starts ts) p (many_at n starts p) h (many_at_sound R n starts p h) ts

pub many_sound : {A : Type 0} (R : List Token → A → List Token → Type 0) (starts : Token → Bool) (p : Reader A)
    → ((ts : List Token) → Holds (p ts) (R ts)) → (ts : List Token) → Holds (many starts p ts) (Chain R ts)
unfolding many
many_sound R starts p h ts = many_at_sound R (length ts) starts p h ts

-- Something is read.
abbrev pub Shrinks : {A : Type 0} → Reader A → Type 0
Shrinks {A = A} p = (ts : List Token) → Holds (p ts) (λ _ rest. length rest < length ts)

pub var_shrinks : (at : Places) → Shrinks (var_at at)
var_shrinks at (t.Variable x ∷ ts) = holds_ok (named at x ts) ts (omega arith)
var_shrinks at ts = holds_err (At (length ts))

-- ---- the loop without its bound

step_ext : {A : Type 0} (v : Bool) (p : Reader A) (q q' : Reader (List A)) (ts : List Token) → Shrinks p
    → ((rest : List Token) → length rest < length ts → q rest ≡ q' rest) → many_step v p q ts ≡ many_step v p q' ts
step_ext false p q q' ts sh h = refl
step_ext {A = A} true p q q' ts sh h =
    then_ext (p ts) (λ a rest. then_at (q rest) (λ xs left. Ok (a ∷ xs, left))) (λ a rest. then_at (q' rest) (λ xs left. Ok (a ∷ xs, left)))
    (λ a rest e. ap (λ (r : Read (List A)). then_at r (λ xs left. done (a ∷ xs) left)) (h rest ((sh ts).by a rest e)))

nothing_starts : (starts : Token → Bool) (ts : List Token) → length ts ≤ 0 → next_is starts ts ≡ false
nothing_starts starts [] le = refl
nothing_starts starts (x ∷ ts) le = absurd (omega arith)

abbrev no_items : {A : Type 0} → List A
no_items = []

stops : {A : Type 0} (n : ℕ) (starts : Token → Bool) (p : Reader A) (ts : List Token) → next_is starts ts ≡ false → many_at n starts p ts ≡ done no_items ts
unfolding many_at
stops zero starts p ts e = refl
stops (suc n) starts p ts e = ap (λ v. many_step v p (many_at n starts p) ts) e

pub many_none : {A : Type 0} (starts : Token → Bool) (p : Reader A) (ts : List Token) → next_is starts ts ≡ false → many starts p ts ≡ done no_items ts
unfolding many
many_none starts p ts e = stops (length ts) starts p ts e

enough : {A : Type 0} (starts : Token → Bool) (p : Reader A) → Shrinks p → (k l : ℕ) (ts : List Token) → length ts ≤ k → length ts ≤ l
    → many_at k starts p ts ≡ many_at l starts p ts
unfolding many_at
enough starts p sh zero l ts le le' = let e = nothing_starts starts ts le in stops zero starts p ts e ∙ sym (stops l starts p ts e)
enough starts p sh (suc k) zero ts le le' = let e = nothing_starts starts ts le' in stops (suc k) starts p ts e ∙ sym (stops zero starts p ts e)
enough starts p sh (suc k) (suc l) ts le le' =
    step_ext (next_is starts ts) p (many_at k starts p) (many_at l starts p) ts sh (λ rest lt. enough starts p sh k l rest (omega arith) (omega arith))

pub many_is : {A : Type 0} (starts : Token → Bool) (p : Reader A) → Shrinks p → (ts : List Token)
    → many starts p ts ≡ many_step (next_is starts ts) p (many starts p) ts
unfolding many_at many
many_is starts p sh ts =
    enough starts p sh (length ts) (suc (length ts)) ts (omega arith) (omega arith)
    ∙ step_ext (next_is starts ts) p (many_at (length ts) starts p) (many starts p) ts sh
    (λ rest lt. enough starts p sh (length ts) (length rest) rest (omega arith) (omega arith))
