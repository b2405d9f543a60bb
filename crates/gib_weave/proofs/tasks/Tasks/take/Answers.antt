use Rattle.std.proofs.Common.{refl, sym, ap, subst, ◌∙◌}
use Rattle.std.proofs.lemmas.Bool.{false≢true}
use Rattle.gib_mem.specs.Plain.{nothing}
use Rattle.gib_weave.specs.Applied.{over}
use Rattle.gib_machine.specs.Machine.{next}
use Rattle.gib_weave.specs.Weave.{NewestWaits, Task}
use Rattle.gib_weave.proofs.Applying.{read_task, take_applied}
use Rattle.gib_weave.proofs.tasks.Tasks.take.Goals as goal

pub returns-then-not-is_at_join : goal.returns-then-not-is_at_join
returns-then-not-is_at_join c = λ v. (refl, λ h. absurd (false≢true ((c.if-not-is_at_join.ensures.on v).1 (h.0, h.1))))

pub returns-then-not-side_waits : goal.returns-then-not-side_waits
returns-then-not-side_waits c = λ v. (refl, λ h. absurd (false≢true (c.if-not-side_waits.ensures.1 (subst (λ (t : Task). NewestWaits t.sides) (sym c.at.ensures) h.2))))

pub take-requires-clause-join : goal.take-requires-clause-join
take-requires-clause-join c =
    let read = read_task c.args.self.now c.self.inside.items.items c.args.number c.index_mut.result.now c.index_mut.ensures.value c.self.view_is (c.if-not-is_at_join.ensures.below refl) in
    ap (λ (t : Task). next c.args.code.now t.state) read ∙ ((c.if-not-is_at_join.ensures.on (nothing 0)).0 refl).1

pub returns : goal.returns
returns c = λ v.
    let joins = (c.if-not-is_at_join.ensures.on v).0 refl in
    let read = read_task c.args.self.now c.self.inside.items.items c.args.number c.index_mut.result.now c.index_mut.ensures.value c.self.view_is (c.if-not-is_at_join.ensures.below refl) in
    take_applied c.args.code.now (over v c.args.self.now) c.self.inside.items.items c.args.number c.index_mut.result.now c.take.new.self joins.0 c.self.view_is read
    (ap (λ (t : Task). next c.args.code.now t.state) read ∙ joins.1)
    (subst (λ (t : Task). NewestWaits t.sides) (c.at.ensures ∙ sym read) (c.if-not-side_waits.ensures.0 refl)) c.take.ensures
