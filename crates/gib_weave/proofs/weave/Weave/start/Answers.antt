use Rattle.std.proofs.Common.{refl}
use Rattle.gib_mem.specs.Memory.{Memory}
use Rattle.gib_mem.specs.Plain.{plain_memory, plain_bounded}
use Rattle.gib_weave.specs.Applied.{over}
use Rattle.gib_weave.proofs.Wovens.{start_sound, start_woven}
use Rattle.gib_weave.proofs.weave.Weave.start.Goals as goal

pub invariant_of-result : goal.invariant_of-result
invariant_of-result c =
    let m : Memory = plain_memory c.args.memory.bytes.items c.args.memory.drawn c.args.memory.limit in
    start_woven c.args.lowered.now c.code.ensures.lowered c.core.ensures.fits m (plain_bounded _ _ _ c.args.memory.plain) refl c.args.root c.args.nesting.calls c.args.nesting.forks c.args.tails (over m c.in_ok-tasks.tasks) (c.in_ok-tasks.ensures m)
    c.requires.0 c.requires.1

pub returns-clause-sound : goal.returns-clause-sound
returns-clause-sound c =
    let m : Memory = plain_memory c.args.memory.bytes.items c.args.memory.drawn c.args.memory.limit in
    start_sound c.args.lowered.now c.code.ensures.lowered c.core.ensures.fits m (plain_bounded _ _ _ c.args.memory.plain) refl c.args.root c.args.nesting.calls c.args.nesting.forks c.args.tails (over m c.in_ok-tasks.tasks) (c.in_ok-tasks.ensures m)
