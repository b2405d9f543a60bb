use Rattle.std.proofs.Common.{◌≤◌, [], ◌∷◌, ap, sym, subst}
use Rattle.gib_mem.specs.Memory.{Memory}
use Rattle.gib_mem.specs.Plain.{plain_memory}
use Rattle.gib_mem.specs.declared.plain.PlainMem.{PlainMem}
use Rattle.gib_core.specs.LoweredParts.{LoweredParts}
use Rattle.gib_syntax.specs.Parts.{program_of}
use Rattle.gib_app.specs.declared.made.Reason.TheVariants as reason
use Rattle.gib_app.specs.Jobs.{Replays}
use Rattle.gib_app.specs.Kept.{file_of}
use Rattle.gib_app.proofs.Doing.{ends_without}
use Rattle.gib_app.proofs.JournalEnds.{replayed_none, replayed_on, replayed_stands, shown_replays}
use Rattle.gib_app.proofs.jobs.replay.replay.Goals as goal

abbrev view : PlainMem → Memory
view m = plain_memory m.bytes.items m.drawn m.limit

pub returns-in-Err-ran_of-clause-made : goal.returns-in-Err-ran_of-clause-made
returns-in-Err-ran_of-clause-made c =
    let p = program_of c.args.compiled.now.typed in
    let file = c.args.file.now in
    let bytes = c.args.journal.now in
    let names = c.args.compiled.now.names in
    let run = c.in-Ok.run' in
    ends_without c.no_value.result (reason.Meant c.in-Err-ran_of.why) (Replays p names c.args.image (record { second = file; further = bytes ∷ [] })) c.no_value.ensures.file c.no_value.ensures.end
    (replayed_none p names c.args.image file bytes run.lowered.code.laid (view run.replayed.memory) run.replayed.answer c.in-Err-ran_of.why c.in-Ok.ensures.ends c.in-Err-ran_of.ensures.none)

pub shown-requires-clause-stands : goal.shown-requires-clause-stands
shown-requires-clause-stands c =
    let p = program_of c.args.compiled.now.typed in
    let run = c.in-Ok.run' in
    let ran = c.in-Ok-ran_of.ran in
    let on = replayed_on p c.args.file.now c.args.journal.now run.lowered.code.laid ran.lowered.code.laid (view run.replayed.memory) (view ran.memory) run.replayed.answer
    (ap (λ (l : LoweredParts). l.code.laid) c.in-Ok-ran_of.ensures.some.2) (ap view c.in-Ok-ran_of.ensures.some.1) c.in-Ok.ensures.ends in
    record {
      program = p;
      depth = on.settings.depth;
      input = c.args.file.now;
      meant = replayed_stands p c.args.file.now c.args.journal.now ran.lowered.code.laid (view ran.memory) run.replayed.answer ran.root on c.in-Ok-ran_of.ensures.some.0;
    }

pub returns-in-Ok-shown-clause-made : goal.returns-in-Ok-shown-clause-made
returns-in-Ok-shown-clause-made c =
    let p = program_of c.args.compiled.now.typed in
    let run = c.in-Ok.run' in
    let ran = c.in-Ok-ran_of.ran in
    let made = c.in-Ok-shown.made in
    let on = replayed_on p c.args.file.now c.args.journal.now run.lowered.code.laid ran.lowered.code.laid (view run.replayed.memory) (view ran.memory) run.replayed.answer
    (ap (λ (l : LoweredParts). l.code.laid) c.in-Ok-ran_of.ensures.some.2) (ap view c.in-Ok-ran_of.ensures.some.1) c.in-Ok.ensures.ends in
    let there = c.in-Ok-ran_of.ensures.some.0 in
    shown_replays p c.args.compiled.now.names c.args.image c.args.file.now c.args.journal.now ran.lowered.code.laid (view ran.memory) run.replayed.answer ran.root on there (file_of made) made.end
    (c.in-Ok-shown.ensures.shown p on.settings.depth c.args.file.now (replayed_stands p c.args.file.now c.args.journal.now ran.lowered.code.laid (view ran.memory) run.replayed.answer ran.root on there))

pub shown-requires-clause-few : goal.shown-requires-clause-few
shown-requires-clause-few c = subst (λ (m : Memory). m.limit ≤ 65536) (sym (ap view c.in-Ok-ran_of.ensures.some.1)) c.in-Ok.ensures.limit
