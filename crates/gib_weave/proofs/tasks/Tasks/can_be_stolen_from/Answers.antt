use Rattle.std.proofs.Common.{refl, sym, ap, subst, length, arith}
use Rattle.std.proofs.lemmas.Bool.{false≢true}
use Rattle.gib_weave.specs.Weave.{HasWaiting, Task}
use Rattle.gib_weave.proofs.tasks.Tasks.can_be_stolen_from.Goals as goal

pub returns-then-not-is_on-clause-on : goal.returns-then-not-is_on-clause-on
returns-then-not-is_on-clause-on c = λ v. (λ e. absurd (false≢true e), λ h. absurd (false≢true ((c.if-not-is_on.ensures.on v).1 h.0)))

pub returns-then-len-ge-TASKS-clause-on : goal.returns-then-len-ge-TASKS-clause-on
returns-then-len-ge-TASKS-clause-on c = λ v.
    (λ e. absurd (false≢true e), λ h. let l = c.if-len-ge-TASKS.true in let k = ap length c.self.view_is in let few = h.1 in absurd (omega (arith, l, k, few)))

pub returns-clause-on : goal.returns-clause-on
returns-clause-on c = λ v.
    let l = c.if-len-ge-TASKS.false in
    let k = ap length c.self.view_is in (
      λ e. ((c.if-not-is_on.ensures.on v).0 refl, omega (arith, l, k), subst (λ (t : Task). HasWaiting t.sides) c.at.ensures (c.has_waiting.ensures.0 e)),
      λ h. c.has_waiting.ensures.1 (subst (λ (t : Task). HasWaiting t.sides) (sym c.at.ensures) h.2),
    )
