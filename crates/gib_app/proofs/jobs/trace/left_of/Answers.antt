use Rattle.std.proofs.Common.{◌∙◌, ap}
use Rattle.gib_mem.specs.Memory.{Memory}
use Rattle.gib_mem.specs.Plain.{plain_memory}
use Rattle.gib_mem.specs.declared.plain.PlainMem.{PlainMem}
use Rattle.gib_core.specs.LoweredParts.{LoweredParts}
use Rattle.gib_app.proofs.Leading.{ran_stands, trace_of, traced_none}
use Rattle.gib_app.proofs.jobs.trace.left_of.Goals as goal

abbrev view : PlainMem → Memory
view m = plain_memory m.bytes.items m.drawn m.limit

pub returns-clause-made : goal.returns-clause-made
returns-clause-made c = λ p o input h laid.
    let traced = c.args.run.traced in
    let settings = traced.journal.settings in
    let lines = traced.journal.lines.all.items in (
      trace_of p o input c.in-Ok.file.items settings lines (view traced.memory) traced.answer h traced.journal.lines.are c.in-Ok.ensures,
      traced_none p o input settings lines (view traced.memory) traced.answer c.in-Err.why h c.in-Err.ensures.none,
    )

pub with_journal-requires-clause-stands : goal.with_journal-requires-clause-stands
with_journal-requires-clause-stands c =
    let t = c.requires.traced in
    let traced = c.args.run.traced in
    let ran = c.in-Ok-ran_of.ran in
    let laid = ap (λ (l : LoweredParts). l.code.laid) c.in-Ok-ran_of.ensures.some.2 ∙ t.4 in
    record {
      program = t.0;
      depth = t.1.depth;
      input = t.2;
      meant = ran_stands t.0 t.1 t.2 traced.journal.settings traced.journal.lines.all.items (view traced.memory) (view ran.memory) traced.answer ran.lowered.code.laid ran.root
          t.3 laid (ap view c.in-Ok-ran_of.ensures.some.1) c.in-Ok-ran_of.ensures.some.0;
    }

pub returns-in-Ok-ran_of-clause-made : goal.returns-in-Ok-ran_of-clause-made
returns-in-Ok-ran_of-clause-made c = λ p o input h is_laid.
    let traced = c.args.run.traced in
    let settings = traced.journal.settings in
    let lines = traced.journal.lines.all.items in
    let ran = c.in-Ok-ran_of.ran in
    let laid = ap (λ (l : LoweredParts). l.code.laid) c.in-Ok-ran_of.ensures.some.2 ∙ is_laid in
    let stands = ran_stands p o input settings lines (view traced.memory) (view ran.memory) traced.answer ran.lowered.code.laid ran.root
    h laid (ap view c.in-Ok-ran_of.ensures.some.1) c.in-Ok-ran_of.ensures.some.0 in
    c.with_journal.ensures.made p o input (trace_of p o input c.in-Ok.file.items settings lines (view traced.memory) traced.answer h traced.journal.lines.are c.in-Ok.ensures) stands
