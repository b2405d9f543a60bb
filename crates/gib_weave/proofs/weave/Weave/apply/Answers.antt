use Rattle.std.proofs.Common.{subst}
use Rattle.gib_mem.specs.Plain.{plain_memory}
use Rattle.gib_weave.specs.Applied.{event_of, over}
use Rattle.gib_weave.specs.Woven.{WeaveParts, IsSoundOn, weave_of}
use Rattle.gib_weave.proofs.Wovens.{sound_stays, woven_can_go, woven_stays}
use Rattle.gib_weave.proofs.weave.Weave.apply.Goals as goal

pub apply-requires : goal.apply-requires
apply-requires c = woven_can_go c.self.inside.lowered.now c.code-code.result.now c.code-code.ensures.value c.code-code.ensures.lowered c.core.ensures.fits c.code-code.ensures.runs (over (plain_memory c.self.inside.memory.bytes.items c.self.inside.memory.drawn c.self.inside.memory.limit) c.self.inside.tasks) c.self.invariant

pub invariant_of-self : goal.invariant_of-self
invariant_of-self c =
    woven_stays c.self.inside.lowered.now c.code-code.result.now c.code-code.ensures.value c.code-code.ensures.lowered c.core.ensures.fits c.code-code.ensures.runs (over (plain_memory c.self.inside.memory.bytes.items c.self.inside.memory.drawn c.self.inside.memory.limit) c.self.inside.tasks)
    (over (plain_memory c.apply.new.mem.bytes.items c.apply.new.mem.drawn c.apply.new.mem.limit) c.apply.new.self) (event_of c.args.event) c.apply.result c.self.invariant c.apply.ensures

pub returns-clause-sound : goal.returns-clause-sound
returns-clause-sound c = λ depth level d.
    let v' = over (plain_memory c.apply.new.mem.bytes.items c.apply.new.mem.drawn c.apply.new.mem.limit) c.apply.new.self in
    subst (λ (p : WeaveParts). IsSoundOn p.lowered depth level d (weave_of p) → IsSoundOn p.lowered depth level d v') c.self.view_is
    (λ s. sound_stays c.self.inside.lowered.now c.code-code.result.now c.code-code.ensures.value c.code-code.ensures.lowered c.core.ensures.fits c.code-code.ensures.runs _ _ _ (over (plain_memory c.self.inside.memory.bytes.items c.self.inside.memory.drawn c.self.inside.memory.limit) c.self.inside.tasks) v' (event_of c.args.event) c.apply.result s c.apply.ensures)
