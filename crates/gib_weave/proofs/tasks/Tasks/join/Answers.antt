use Rattle.std.proofs.Common.{◌≡◌, refl, sym, ap, subst, ◌∙◌, drop, ◌∷◌}
use Rattle.std.proofs.lemmas.Bool.{false≢true}
use Rattle.gib_machine.specs.Machine.{next}
use Rattle.gib_weave.specs.Applied.{over}
use Rattle.gib_weave.specs.Weave.{Runs, Task}
use Rattle.gib_weave.proofs.Applying.{join_applied, no_side, not_ended, read_task}
use Rattle.gib_weave.proofs.tasks.Tasks.join.Goals as goal

pub returns-then-not-is_at_join : goal.returns-then-not-is_at_join
returns-then-not-is_at_join c = λ v. (refl, λ h. absurd (false≢true ((c.if-not-is_at_join.ensures.on v).1 (h.0, h.1))))

pub returns-in-None : goal.returns-in-None
returns-in-None c = λ v. (refl, no_side c.args.code.now (over v c.args.self.now) c.args.number c.at.result.now c.at.ensures c.in-None.ensures.none)

pub returns-in-None-finished : goal.returns-in-None-finished
returns-in-None-finished c = λ v.
    (refl, not_ended c.args.code.now (over v c.args.self.now) c.args.number c.in-Some.side c.at.result.now c.at.ensures c.in-Some.ensures.some c.in-None-finished.ensures.none)

pub returns-in-Some-finished : goal.returns-in-Some-finished
returns-in-Some-finished c = λ v.
    let joins = (c.if-not-is_at_join.ensures.on v).0 refl in
    let read = read_task c.args.self.now c.self.inside.items.items c.args.number c.index_mut.result.now c.index_mut.ensures.value c.self.view_is (c.if-not-is_at_join.ensures.below refl) in
    join_applied c.args.code.now (over v c.args.self.now) c.self.inside.items.items c.args.number c.in-Some.side c.index_mut.result.now c.join.new.self c.leave.new.self c.in-Some-finished.answer
    joins.0 c.self.view_is read c.in-Some-finished.ensures.some
    (ap (λ (t : Task). next c.args.code.now t.state) read ∙ joins.1)
    (subst (λ (t : Task). t.sides ≡ Runs c.in-Some.side ∷ drop 1 t.sides) (c.at.ensures ∙ sym read) c.in-Some.ensures.some)
    c.join.ensures c.leave.ensures
