use Rattle.std.proofs.Common.{ℤ, ap, ◌∙◌}
use Rattle.std.specs.Int.{w64, cast_signed, cast_unsigned}
use Rattle.std.proofs.lemmas.Int.{to_z-of_z}
use Rattle.std.proofs.Math.Facts.{Fits-lt-pow, Fits-of_z}
use Rattle.gib_packed.proofs.read.whole_at.Goals as goal

pub returns-clause-value : goal.returns-clause-value
returns-clause-value g c = λ z f h.
    let word = c.word_at.ensures.value (cast_unsigned w64 z) (Fits-lt-pow (Fits-of_z f)) h in
    let is = c.cast_signed.ensures ∙ ap (cast_signed w64) word ∙ to_z-of_z w64 z f in
    ap (λ (x : ℤ). cast_signed w64 (cast_unsigned w64 x)) is ∙ to_z-of_z w64 z f
