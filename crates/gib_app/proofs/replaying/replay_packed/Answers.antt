use Rattle.gib_mem.specs.Plain.{plain_memory}
use Rattle.gib_syntax.specs.Parts.{program_of}
use Rattle.gib_app.proofs.JournalEnds.{no_journal, refused_replay, replay_stops, replayed_run}
use Rattle.gib_app.proofs.Refusals.{run_stop}
use Rattle.gib_app.proofs.replaying.replay_packed.Goals as goal

pub returns-in-Err-clause-stop : goal.returns-in-Err-clause-stop
returns-in-Err-clause-stop c =
    let p = program_of c.args.typed.now in
    let file = c.args.file.now in
    refused_replay p c.args.names.now file c.args.bytes.now c.in-Err.stop (run_stop p c.args.names.now file c.requires.short c.in-Err.stop c.in-Err.ensures.refused)

pub returns-in-Err-journal_of-clause-stop : goal.returns-in-Err-journal_of-clause-stop
returns-in-Err-journal_of-clause-stop c =
    no_journal c.args.names.now (program_of c.args.typed.now) c.args.file.now c.args.bytes.now c.in-Ok.survey c.requires.short c.payload-packed.ensures.packed c.in-Ok.ensures.file c.requires.few
    c.in-Err-journal_of.stop c.in-Err-journal_of.ensures.none

pub returns-in-Ok-replay_survey-clause-ends : goal.returns-in-Ok-replay_survey-clause-ends
returns-in-Ok-replay_survey-clause-ends c =
    let low = c.in-Ok-lowered.ensures in
    let journal = c.in-Ok-journal_of.journal in
    let made = c.in-Ok-replay_survey.replayed in
    replayed_run (program_of c.args.typed.now) c.args.file.now c.args.bytes.now c.in-Ok.survey c.in-Ok-lowered.lowered journal.settings journal.lines.all.items
    (plain_memory made.memory.bytes.items made.memory.drawn made.memory.limit) made.answer (record { core = low.core; code = low.code; laid = low.laid; means = low.means }) c.requires.short
    c.payload-packed.ensures.packed c.in-Ok.ensures.file (record { short = c.requires.few; are = c.in-Ok-journal_of.ensures.are; text_is = c.in-Ok-journal_of.ensures.journal }) c.in-Ok-replay_survey.ensures.ends

pub returns-clause-stop : goal.returns-clause-stop
returns-clause-stop c =
    let low = c.in-Ok-lowered.ensures in
    let journal = c.in-Ok-journal_of.journal in
    replay_stops c.args.names.now c.one_file.ensures.value (program_of c.args.typed.now) c.args.file.now c.args.bytes.now c.in-Ok.survey c.in-Ok-lowered.lowered journal.settings journal.lines.all.items
    (record { core = low.core; code = low.code; laid = low.laid; means = low.means }) c.requires.short c.payload-packed.ensures.packed c.in-Ok.ensures.file
    (record { short = c.requires.few; are = c.in-Ok-journal_of.ensures.are; text_is = c.in-Ok-journal_of.ensures.journal }) c.in-Err-replay_survey.stop c.in-Err-replay_survey.ensures.stop
