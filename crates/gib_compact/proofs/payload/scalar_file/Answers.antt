use Rattle.std.proofs.Common.{ℕ, List, ◌++◌, length, ap, ◌∙◌, arith}
use Rattle.gib_compact.specs.Gathered.{with_head}
use Rattle.gib_compact.proofs.payload.scalar_file.Goals as goal

pub returns-clause-out : goal.returns-clause-out
returns-clause-out c =
    let bytes : List ℕ = c.args.bytes.now in (
      c.in_ok-parts.ensures (with_head c.args.description.now (length bytes) bytes) (c.in_ok-extend_from_slice.ensures.items ∙ ap (λ (q : List ℕ). q ++ bytes) c.in_ok-out.ensures),
      omega (arith, c.if-payload-packing.false),
    )
