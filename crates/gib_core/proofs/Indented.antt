-- The spaces of a level, written two at a time.
use Rattle.std.proofs.Common.{◌≡◌, ◌<◌, ◌-◌, ℕ, zero, suc, List, [], ◌∷◌, ◌++◌, sym, ap, ◌∙◌, arith, append_assoc}
use Rattle.gib_core.specs.CoreText.{indent}

indent_step : (n : ℕ) → 0 < n → indent n ≡ 32 ∷ 32 ∷ indent (n - 1)
indent_step zero lt = absurd (omega arith)
indent_step (suc n) lt = let e : n ≡ suc n - 1 = omega arith in ap (λ m. 32 ∷ 32 ∷ indent m) e

pub indent_written : (out new all : List ℕ) (n : ℕ) → 0 < n → new ≡ out ++ 32 ∷ 32 ∷ [] → out ++ indent n ≡ all → new ++ indent (n - 1) ≡ all
indent_written out new all n lt made e =
    ap (λ l. l ++ indent (n - 1)) made
    ∙ append_assoc out (32 ∷ 32 ∷ []) (indent (n - 1))
    ∙ ap (λ l. out ++ l) (sym (indent_step n lt))
    ∙ e
