use Rattle.std.proofs.Common.{ℕ, ap, ◌∙◌, arith}
use Rattle.gib_check.specs.Judging.{Judging}
use Rattle.gib_check.proofs.bodies.check_body.Goals as goal

pub check_from-requires-clause-counts : goal.check_from-requires-clause-counts
check_from-requires-clause-counts c =
    ap (λ (s : Judging). s.counts) c.new-state.ensures ∙ ap (λ (m : ℕ). record { variables = m; expressions = 0 }) (omega (arith, c.in-Ok.ensures))
