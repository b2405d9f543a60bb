use Rattle.std.proofs.Common.{ℕ, subst}
use Rattle.std.specs.Prelude.{IfSome, IfNone}
use Rattle.gib_mem.specs.Plain.{plain_memory}
use Rattle.gib_weave.specs.Applied.{event_of, over}
use Rattle.gib_weave.specs.Weave.{Enabled, IsSteal, Steal}
use Rattle.gib_weave.specs.Woven.{WeaveParts, weave_of}
use Rattle.gib_weave.proofs.Wovens.{no_steal, picked_steal_enabled}
use Rattle.gib_weave.proofs.weave.Weave.pick_steal.Goals as goal

pub returns-clause-some : goal.returns-clause-some
returns-clause-some c =
    let w = (over (plain_memory c.self.inside.memory.bytes.items c.self.inside.memory.drawn c.self.inside.memory.limit) c.self.inside.tasks) in
    subst (λ (p : WeaveParts). IfSome c.pick_steal.result (λ e. Enabled p.lowered.code (weave_of p) (event_of e) × IsSteal (event_of e))) c.self.view_is
    (picked_steal_enabled c.self.inside.lowered.now.code w c.pick_steal.result (c.pick_steal.ensures w.memory))

pub returns-clause-none : goal.returns-clause-none
returns-clause-none c =
    let w = (over (plain_memory c.self.inside.memory.bytes.items c.self.inside.memory.drawn c.self.inside.memory.limit) c.self.inside.tasks) in
    subst (λ (p : WeaveParts). IfNone c.pick_steal.result ((i : ℕ) → Enabled p.lowered.code (weave_of p) (Steal i) → ⊥)) c.self.view_is
    (no_steal c.self.inside.lowered.now.code w c.pick_steal.result (c.pick_steal.ensures w.memory))
