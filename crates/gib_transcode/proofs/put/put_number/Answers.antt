use Rattle.std.proofs.Common.{ℕ, List, ap, ◌∙◌}
use Rattle.std.specs.Prelude.{FitsSigned}
use Rattle.std.specs.Int.{w64, to_le_bytes, cast_unsigned}
use Rattle.std.proofs.lemmas.Int.{to_z-of_z}
use Rattle.gib_transcode.specs.Rooms.{over}
use Rattle.gib_transcode.proofs.put.put_number.Goals as goal

pub returns : goal.returns
returns c =
    let fits : FitsSigned w64 c.args.z = search in
    let bits = c.cast_unsigned.ensures ∙ ap (cast_unsigned w64) (to_z-of_z w64 c.args.z fits) in
    c.put_over.ensures ∙ ap (λ (l : List ℕ). over c.args.place l c.args.out.now.items) (c.to_le_bytes.ensures ∙ ap (to_le_bytes w64) bits)
