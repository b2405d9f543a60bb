use Rattle.std.proofs.Common.{List, ℕ, [], ◌∷◌, ◌++◌, ap, ◌∙◌}
use Rattle.std.specs.Prelude.{ℤ, codes}
use Rattle.std.specs.Fmt.{decimal, signed_decimal}
use Rattle.std.specs.Int.{w64, cast_signed, cast_unsigned}
use Rattle.gib_print.specs.Numbers.{numbers}
use Rattle.gib_gen.proofs.TotalOfTree.{total_kept}
use Rattle.gib_gen.proofs.line.summary.Goals as goal

-- src/line.rt
pub returns-clause-line : goal.returns-clause-line
returns-clause-line g c ty v stands =
    let total = c.in_ok-total.ensures.total ty v stands in
    let first = c.in_ok-push_decimal.ensures ∙ (λ i. c.in_ok-out.ensures.items i ++ decimal (c.from.ensures i)) in
    let then_levels = c.in_ok-extend_from_slice.ensures.items ∙ ap (λ (l : List ℕ). l ++ codes " levels ") first in
    let second = c.in_ok-push_decimal-2.ensures ∙ (λ i. then_levels i ++ decimal (c.from-2.ensures i)) in
    let leaves = c.in_ok-extend_from_slice-2.ensures.items ∙ ap (λ (l : List ℕ). l ++ codes " leaves ") second in
    let third = c.in_ok-push_decimal-3.ensures ∙ (λ i. leaves i ++ decimal (total.0 i)) in
    let behind = c.in_ok-extend_from_slice-3.ensures.items ∙ ap (λ (l : List ℕ). l ++ codes " sum ") third in
    let kept = ap (λ (z : ℤ). cast_signed w64 (cast_unsigned w64 z)) total.1 ∙ total_kept (numbers v) in
    c.in_ok-push.ensures.items ∙ ap (λ (l : List ℕ). l ++ 10 ∷ []) (c.in_ok-push_signed.ensures ∙ (λ i. behind i ++ signed_decimal (kept i)))
