use Rattle.gib_core.specs.Parts.{core_of}
use Rattle.gib_mem.specs.Plain.{plain_memory}
use Rattle.gib_weave.specs.Running.{word_of}
use Rattle.gib_weave.specs.Weave.{weave_start}
use Rattle.gib_locked.proofs.Happening.{meant}
use Rattle.gib_locked.proofs.OneEnd.{limit_stays}
use Rattle.gib_locked.proofs.loaded.replay_loaded.Goals as goal

pub returns-clause-limit : goal.returns-clause-limit
returns-clause-limit c =
    let m = c.args.loaded.memory in
    let first = weave_start (core_of c.args.lowered.now.core) c.args.lowered.now.code (plain_memory m.bytes.items m.drawn m.limit) (word_of c.args.loaded.root) c.args.journal.now.settings.depth c.args.journal.now.settings.fork c.args.loaded.tails in
    limit_stays c.in-Ok.start c.in-Ok-replay.weave first c.args.journal.now.lines.all.items (plain_memory c.mem.result.bytes.items c.mem.result.drawn c.mem.result.limit) c.in-Ok.ensures.starts c.in-Ok-replay.ensures.0 c.mem.ensures

pub returns-clause-means : goal.returns-clause-means
returns-clause-means c = λ d start.
    meant c.in-Ok.start c.in-Ok-replay.weave c.args.lowered.now c.args.journal.now.lines.all.items c.args.journal.now.settings.depth c.args.journal.now.settings.fork d (plain_memory c.mem.result.bytes.items c.mem.result.drawn c.mem.result.limit) c.in-Some.answer
    c.in-Ok.ensures.lowered c.in-Ok-replay.ensures.0 (c.in-Ok.ensures.sound d start) c.in-Some.ensures.means c.mem.ensures
