use Rattle.gib_mem.specs.Plain.{plain_memory}
use Rattle.gib_syntax.specs.Parts.{program_of}
use Rattle.gib_app.proofs.Leading.{refused_trace, traced_run, traced_stops}
use Rattle.gib_app.proofs.Refusals.{run_stop}
use Rattle.gib_app.proofs.tracing.trace_packed.Goals as goal

pub returns-in-Err-clause-stop : goal.returns-in-Err-clause-stop
returns-in-Err-clause-stop g c =
    let p = program_of c.args.typed.now in
    let file = c.args.file.now in
    refused_trace p c.args.names.now c.args.options file c.in-Err.stop (run_stop p c.args.names.now file c.requires.short c.in-Err.stop c.in-Err.ensures.refused)

pub returns-in-Ok-trace_survey-clause-ends : goal.returns-in-Ok-trace_survey-clause-ends
returns-in-Ok-trace_survey-clause-ends g c =
    let low = c.in-Ok-lowered.ensures in
    let made = c.in-Ok-trace_survey.traced in
    traced_run (program_of c.args.typed.now) c.args.options c.args.file.now c.in-Ok.survey c.in-Ok-lowered.lowered made.journal.settings made.journal.lines.all.items
    (plain_memory made.memory.bytes.items made.memory.drawn made.memory.limit) made.answer (record { core = low.core; code = low.code; laid = low.laid; means = low.means }) c.requires.short
    c.payload-packed.ensures.packed c.in-Ok.ensures.file c.in-Ok-trace_survey.ensures.set c.in-Ok-trace_survey.ensures.ends

pub returns-clause-stop : goal.returns-clause-stop
returns-clause-stop g c =
    let low = c.in-Ok-lowered.ensures in
    traced_stops c.args.names.now (program_of c.args.typed.now) c.args.options c.args.file.now c.in-Ok.survey c.in-Ok-lowered.lowered (record { core = low.core; code = low.code; laid = low.laid; means = low.means }) c.requires.short
    c.payload-packed.ensures.packed c.in-Ok.ensures.file c.in-Err-trace_survey.stop c.in-Err-trace_survey.ensures.stop
