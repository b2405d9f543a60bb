use Rattle.std.proofs.Common.{refl, ap, ◌∙◌, length, arith}
use Rattle.std.proofs.lemmas.Bool.{false≢true}
use Rattle.gib_weave.specs.Applied.{over}
use Rattle.gib_machine.specs.Machine.{next}
use Rattle.gib_weave.specs.Weave.{Task}
use Rattle.gib_weave.proofs.Applying.{read_task, same_task, finish_applied}
use Rattle.gib_weave.proofs.tasks.Tasks.finish.Goals as goal

pub returns-then-not-is_on : goal.returns-then-not-is_on
returns-then-not-is_on c = λ v. (refl, λ h. absurd (false≢true ((c.if-not-is_on.ensures.on v).1 h.0)))

pub index_mut-requires : goal.index_mut-requires
index_mut-requires c =
    let b = c.if-not-is_on.ensures.below refl in
    let l = ap length c.self.view_is in
    let k = c.self.inside.items.ok in
    omega (arith, b, l, k)

pub returns-in-Some : goal.returns-in-Some
returns-in-Some c = λ v. finish_applied c.args.code.now (over v c.args.self.now) c.self.inside.items.items c.args.number c.index_mut.result.now c.finish.new.self ((c.if-not-is_on.ensures.on v).0 refl) c.self.view_is (read_task c.args.self.now c.self.inside.items.items c.args.number c.index_mut.result.now c.index_mut.ensures.value c.self.view_is (c.if-not-is_on.ensures.below refl)) c.in-Some.answer (ap (λ (t : Task). next c.args.code.now t.state) (same_task c.args.self.now c.self.inside.items.items c.args.number c.index_mut.result.now c.at.result.now c.index_mut.ensures.value c.self.view_is (c.if-not-is_on.ensures.below refl) c.at.ensures) ∙ c.in-Some.ensures.some) c.finish.ensures
