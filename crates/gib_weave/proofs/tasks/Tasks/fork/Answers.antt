use Rattle.std.proofs.Common.{refl, ap, ◌∙◌}
use Rattle.std.proofs.lemmas.Bool.{false≢true}
use Rattle.gib_weave.specs.Applied.{over}
use Rattle.gib_machine.specs.Machine.{next}
use Rattle.gib_weave.specs.Weave.{Task}
use Rattle.gib_weave.proofs.Applying.{read_task, same_task, fork_applied}
use Rattle.gib_weave.proofs.tasks.Tasks.fork.Goals as goal

pub returns-then-not-is_on : goal.returns-then-not-is_on
returns-then-not-is_on c = λ v. (refl, λ h. absurd (false≢true ((c.if-not-is_on.ensures.on v).1 h.0)))

pub fork-requires-clause-fork : goal.fork-requires-clause-fork
fork-requires-clause-fork c = ap (λ (t : Task). next c.args.code.now t.state) (same_task c.args.self.now c.self.inside.items.items c.args.number c.index_mut.result.now c.at.result.now c.index_mut.ensures.value c.self.view_is (c.if-not-is_on.ensures.below refl) c.at.ensures) ∙ c.if-not-is_at_fork.ensures.0 refl

pub returns : goal.returns
returns c = λ v. fork_applied c.args.code.now (over v c.args.self.now) c.self.inside.items.items c.args.number c.index_mut.result.now c.fork.new.self ((c.if-not-is_on.ensures.on v).0 refl) c.self.view_is (read_task c.args.self.now c.self.inside.items.items c.args.number c.index_mut.result.now c.index_mut.ensures.value c.self.view_is (c.if-not-is_on.ensures.below refl)) c.fork.result
    (ap (λ (t : Task). next c.args.code.now t.state) (same_task c.args.self.now c.self.inside.items.items c.args.number c.index_mut.result.now c.at.result.now c.index_mut.ensures.value c.self.view_is (c.if-not-is_on.ensures.below refl) c.at.ensures) ∙ c.if-not-is_at_fork.ensures.0 refl) c.fork.ensures
