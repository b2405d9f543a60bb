use Rattle.std.proofs.Common.{refl, sym, ap, ◌∙◌}
use Rattle.std.proofs.lemmas.Bool.{false≢true}
use Rattle.gib_machine.specs.Machine.{next}
use Rattle.gib_weave.specs.Weave.{Task}
use Rattle.gib_weave.proofs.tasks.Tasks.is_at_join.Goals as goal

pub returns-then-not-is_on-clause-on : goal.returns-then-not-is_on-clause-on
returns-then-not-is_on-clause-on c = λ v. (λ e. absurd (false≢true e), λ h. absurd (false≢true ((c.if-not-is_on.ensures.on v).1 h.0)))

pub returns-clause-on : goal.returns-clause-on
returns-clause-on c = λ v.
    let at = ap (λ (t : Task). next c.args.code.now t.state) c.at.ensures in
    (λ e. ((c.if-not-is_on.ensures.on v).0 refl, sym at ∙ c.is_at_join.ensures.0 e), λ h. c.is_at_join.ensures.1 (at ∙ h.1))
