use Rattle.std.proofs.Common.{◌≡◌, ℕ, ◌&&◌, subst, ◌∙◌}
use Rattle.std.specs.Ordering.{nat_cmp}
use Rattle.std.specs.BTreeSet.{contains}
use Rattle.gib_weave.specs.Applied.{can_steal_from, event_of, over}
use Rattle.gib_weave.specs.Weave.{task}
use Rattle.gib_weave.proofs.Opening.{open_after, open_after_step}
use Rattle.gib_weave.proofs.open_tasks.OpenTasks.apply.Goals as goal

pub invariant_of-self : goal.invariant_of-self
invariant_of-self g c =
    open_after_step c.args.code.now (over (g.V.Mem.view c.args.mem.now) c.self.inside.tasks) c.in-Step.field-0 c.args.event (over (g.V.Mem.view c.apply.new.mem) c.apply.new.self)
    c.apply.result c.self.inside.numbers c.in-Step.is c.apply.ensures c.self.invariant

pub invariant_of-self-2 : goal.invariant_of-self-2
invariant_of-self-2 g c =
    let n = c.number_of.ensures in
    open_after c.args.code.now (over (g.V.Mem.view c.args.mem.now) c.self.inside.tasks) (over (g.V.Mem.view c.apply-applied.new.mem) c.apply-applied.new.self) (event_of c.args.event)
    c.apply-applied.result c.self.inside.numbers c.add_opened.new.numbers c.shut.new.numbers c.apply-applied.ensures c.self.invariant c.in-Ok.ensures.added
    (subst (λ (i : ℕ). contains nat_cmp c.shut.new.numbers i ≡ (contains nat_cmp c.add_opened.new.numbers i && can_steal_from (task c.apply-applied.new.self i))) n c.shut.ensures.here)
    (λ k ne. c.shut.ensures.others k (λ e. ne (e ∙ n)))
