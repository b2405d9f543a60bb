use Rattle.std.proofs.Common.{ap, subst, ◌∙◌}
use Rattle.std.specs.Prelude.{IfSome, IfNone}
use Rattle.gib_mem.specs.Plain.{plain_memory}
use Rattle.gib_code.specs.Program.{CodeTree}
use Rattle.gib_weave.specs.Applied.{event_of, over}
use Rattle.gib_weave.specs.Weave.{Enabled, Event, IsOf, pick_of}
use Rattle.gib_weave.specs.Woven.{WeaveParts, weave_of}
use Rattle.gib_weave.proofs.Wovens.{none_of, picked_of_enabled}
use Rattle.gib_weave.proofs.weave.Weave.pick_of.Goals as goal

pub returns-clause-some : goal.returns-clause-some
returns-clause-some c =
    let w = (over (plain_memory c.self.inside.memory.bytes.items c.self.inside.memory.drawn c.self.inside.memory.limit) c.self.inside.tasks) in
    subst (λ (p : WeaveParts). IfSome c.pick_of.result (λ e. Enabled p.lowered.code (weave_of p) (event_of e) × IsOf c.args.task (event_of e))) c.self.view_is
    (picked_of_enabled c.self.inside.lowered.now.code w c.args.task c.pick_of.result (c.pick_of.ensures w.memory ∙ ap (λ (q : CodeTree). pick_of q w c.args.task) c.code.ensures.value))

pub returns-clause-none : goal.returns-clause-none
returns-clause-none c =
    let w = (over (plain_memory c.self.inside.memory.bytes.items c.self.inside.memory.drawn c.self.inside.memory.limit) c.self.inside.tasks) in
    subst (λ (p : WeaveParts). IfNone c.pick_of.result ((e : Event) → Enabled p.lowered.code (weave_of p) e → IsOf c.args.task e → ⊥)) c.self.view_is
    (none_of c.self.inside.lowered.now.code w c.args.task c.pick_of.result (c.pick_of.ensures w.memory ∙ ap (λ (q : CodeTree). pick_of q w c.args.task) c.code.ensures.value))
