use Rattle.std.proofs.Common.{ap, subst, ◌∙◌}
use Rattle.std.specs.Prelude.{IfSome, IfNone}
use Rattle.gib_mem.specs.Plain.{plain_memory}
use Rattle.gib_code.specs.Program.{CodeTree}
use Rattle.gib_weave.specs.Applied.{event_of, over}
use Rattle.gib_weave.specs.Weave.{Enabled, IsFinished, pick, task}
use Rattle.gib_weave.specs.Woven.{WeaveParts, weave_of}
use Rattle.gib_weave.proofs.Wovens.{none_picked, picked_enabled}
use Rattle.gib_weave.proofs.weave.Weave.pick.Goals as goal

pub returns-clause-some : goal.returns-clause-some
returns-clause-some c =
    let w = (over (plain_memory c.self.inside.memory.bytes.items c.self.inside.memory.drawn c.self.inside.memory.limit) c.self.inside.tasks) in
    subst (λ (p : WeaveParts). IfSome c.pick.result (λ e. Enabled p.lowered.code (weave_of p) (event_of e))) c.self.view_is
    (picked_enabled c.self.inside.lowered.now.code w c.pick.result (c.pick.ensures w.memory ∙ ap (λ (q : CodeTree). pick q w) c.code.ensures.value))

pub returns-clause-none : goal.returns-clause-none
returns-clause-none c =
    let w = (over (plain_memory c.self.inside.memory.bytes.items c.self.inside.memory.drawn c.self.inside.memory.limit) c.self.inside.tasks) in
    subst (λ (p : WeaveParts). IfNone c.pick.result (IsFinished (task p.tasks 0).stage)) c.self.view_is
    (none_picked c.self.inside.lowered.now c.code.result.now w c.pick.result c.code.ensures.value c.code.ensures.lowered c.core.ensures.fits c.self.invariant (c.pick.ensures w.memory))
