use Rattle.std.proofs.Common.{◌≡◌, Some, ap, ◌∙◌}
use Rattle.std.specs.Prelude.{ℤ}
use Rattle.std.specs.Int.{w64, cast_signed, cast_unsigned}
use Rattle.std.proofs.lemmas.Int.{to_z-of_z}
use Rattle.gib_value.proofs.Numbers.{number_utf8, number_parses, ok_same}
use Rattle.gib_value.proofs.read.candidate.Goals as goal

pub returns-in_default : goal.returns-in_default
returns-in_default c = λ z fits is. absurd (c.in_default.ensures.cases.0 (number_utf8 z c.args.token.now fits is))

pub returns-in-Ok-parse : goal.returns-in-Ok-parse
returns-in-Ok-parse c = λ z fits is.
    let e = number_parses z c.in-Ok.text.now c.parse.result fits (c.in-Ok.ensures.cases.0 ∙ is) c.parse.ensures.value.0 in
    let own : c.in-Ok-parse.z ≡ z = ok_same _ _ _ c.in-Ok-parse.is e in
    ap (λ (u : ℤ). Some (cast_signed w64 (cast_unsigned w64 u))) own ∙ ap Some (to_z-of_z w64 z fits)

pub returns-in-Err : goal.returns-in-Err
returns-in-Err c = λ z fits is.
    let e = number_parses z c.in-Ok.text.now c.parse.result fits (c.in-Ok.ensures.cases.0 ∙ is) c.parse.ensures.value.0 in
    let no = c.in-Err.is in
    absurd cc
