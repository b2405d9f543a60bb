use Rattle.gib_core.specs.Parts.{core_of}
use Rattle.gib_mem.specs.Plain.{plain_memory}
use Rattle.gib_weave.specs.Running.{word_of}
use Rattle.gib_weave.specs.Weave.{weave_start}
use Rattle.gib_locked.proofs.Happening.{meant}
use Rattle.gib_locked.proofs.OneEnd.{full_start, limit_stays}
use Rattle.gib_locked.proofs.loaded.run_loaded.Goals as goal

pub returns-in-Full-clause-full : goal.returns-in-Full-clause-full
returns-in-Full-clause-full g c = λ is d start.
    let m = c.args.loaded.memory in
    let first = weave_start (core_of c.args.lowered.now.core) c.args.lowered.now.code (plain_memory m.bytes.items m.drawn m.limit) (word_of c.args.loaded.root) c.args.settings.depth c.args.settings.fork c.args.loaded.tails in
    full_start c.in-Ok.start c.in-Full.field-0 c.args.lowered.now first c.in-Full.field-1.lines.all.items c.args.settings.depth c.args.settings.fork d
    c.in-Ok.ensures.lowered c.in-Ok.ensures.starts c.in-Full.ensures.0 c.in-Full.ensures.1 (c.in-Ok.ensures.sound d start)

pub returns-clause-limit : goal.returns-clause-limit
returns-clause-limit g c =
    let m = c.args.loaded.memory in
    let first = weave_start (core_of c.args.lowered.now.core) c.args.lowered.now.code (plain_memory m.bytes.items m.drawn m.limit) (word_of c.args.loaded.root) c.args.settings.depth c.args.settings.fork c.args.loaded.tails in
    limit_stays c.in-Ok.start c.in-Ended.weave first c.in-Ended.journal.lines.all.items (plain_memory c.mem.result.bytes.items c.mem.result.drawn c.mem.result.limit) c.in-Ok.ensures.starts c.in-Ended.ensures.0 c.mem.ensures

pub returns-clause-means : goal.returns-clause-means
returns-clause-means g c = λ d start.
    meant c.in-Ok.start c.in-Ended.weave c.args.lowered.now c.in-Ended.journal.lines.all.items c.args.settings.depth c.args.settings.fork d (plain_memory c.mem.result.bytes.items c.mem.result.drawn c.mem.result.limit) c.in-Some.answer
    c.in-Ok.ensures.lowered c.in-Ended.ensures.0 (c.in-Ok.ensures.sound d start) c.in-Some.ensures.means c.mem.ensures
