use Rattle.gib_mem.specs.Plain.{plain_memory}
use Rattle.gib_app.proofs.Leading.{loaded_end}
use Rattle.gib_app.proofs.tracing.trace_survey.Goals as goal

pub returns-in-Ok-run_loaded-clause-ends : goal.returns-in-Ok-run_loaded-clause-ends
returns-in-Ok-run_loaded-clause-ends g c = λ v p.
    let loaded = c.in-Ok.loaded in
    let from = loaded.memory in
    let made = c.in-Ok-run_loaded.traced in
    let ends = c.in-Ok-run_loaded.ensures in
    let here = c.in-Ok.ensures.loaded v p in
    loaded_end c.args.lowered.now v c.in-Some.settings made.journal.settings c.args.options.chunks made.journal.lines.all.items (plain_memory from.bytes.items from.drawn from.limit)
    (plain_memory made.memory.bytes.items made.memory.drawn made.memory.limit) loaded.root loaded.tails made.answer ends.settings c.in-Some.ensures.chunks here ends.ends (ends.means v here.start)
