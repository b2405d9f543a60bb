use Rattle.gib_mem.specs.Plain.{plain_memory}
use Rattle.gib_core.specs.Parts.{core_of}
use Rattle.gib_weave.specs.Running.{word_of}
use Rattle.gib_weave.specs.Weave.{weave_start}
use Rattle.gib_app.proofs.JournalEnds.{loaded_stops}
use Rattle.std.proofs.Common.{arith}
use Rattle.gib_app.proofs.Settings.{few_chunks}
use Rattle.gib_app.proofs.replaying.replay_survey.Goals as goal

pub returns-in-Err-clause-stop : goal.returns-in-Err-clause-stop
returns-in-Err-clause-stop c = λ v p.
    let loaded = c.in-Ok.loaded in
    let from = loaded.memory in
    let memory = plain_memory from.bytes.items from.drawn from.limit in
    let l = c.args.lowered.now in
    let settings = c.args.journal.now.settings in
    let lines = c.args.journal.now.lines.all.items in
    loaded_stops l v settings lines memory loaded.root loaded.tails c.of_replay.result (c.in-Ok.ensures.loaded v p)
    (c.of_replay.ensures l.code (weave_start (core_of l.core) l.code memory (word_of loaded.root) settings.depth settings.fork loaded.tails) lines c.in-Err.ensures.no_end)

pub returns-in-Ok-replay_loaded-clause-limit : goal.returns-in-Ok-replay_loaded-clause-limit
returns-in-Ok-replay_loaded-clause-limit c =
    let settings = c.args.journal.now.settings in
    let few = few_chunks settings.depth settings.chunks settings.fork settings.within in
    let from = c.in-Ok.ensures.limit in
    let same = c.in-Ok-replay_loaded.ensures.limit in
    omega (arith, few, from, same)
