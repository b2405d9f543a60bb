use Rattle.gib_syntax.specs.Parts.{program_of}
use Rattle.gib_app.specs.Running.{sourced}
use Rattle.gib_app.specs.Calls.{input_calls, read_calls}
use Rattle.gib_app.specs.Causes.{further_of}
use Rattle.gib_app.specs.Formats.{inputs_of}
use Rattle.gib_words.specs.Kept.{document_of, plan_of}
use Rattle.gib_app.proofs.AfterReads.{none_begun, none_there, one_read, one_stopped, stopped_behind}
use Rattle.gib_app.proofs.Making.{first_taken, found_none, found_some, further_none, further_one, long_further, read_further_stop, unsurveyed}
use Rattle.gib_app.proofs.make.read_third.Goals as goal

-- src/make.rt

-- ---- There is none

pub returns-in_default-clause-bytes : goal.returns-in_default-clause-bytes
returns-in_default-clause-bytes g c = further_none c.third_input.result (plan_of c.args.plan) c.third_input.ensures.input (g.S.Shelf.view c.args.shelf.now).kept c.in_default.is

pub returns-in_default-clause-read : goal.returns-in_default-clause-read
returns-in_default-clause-read g c = none_there c.third_input.result (further_of (inputs_of (plan_of c.args.plan))) c.third_input.ensures.input (g.S.Shelf.view c.args.shelf.now) c.in_default.is

-- ---- The second is refused

pub returns-in-Err-clause-stop : goal.returns-in-Err-clause-stop
returns-in-Err-clause-stop g c =
    let before = g.S.Shelf.view c.args.shelf.now in
    unsurveyed c.third_input.result (plan_of c.args.plan) c.third_input.ensures.input before before c.in-Some.third c.in-Some.is (sourced (program_of c.args.typed.now)) c.args.names.now c.args.second.now c.in-Err.stop c.requires.most c.in-Err.ensures.refused

pub returns-in-Err-clause-stopped : goal.returns-in-Err-clause-stopped
returns-in-Err-clause-stopped g c = none_begun (g.S.Shelf.view c.args.shelf.now) (input_calls (further_of (inputs_of (plan_of c.args.plan)))) c.in-Err.stop

-- ---- It is read

pub returns-in-Ok-Some-clause-bytes : goal.returns-in-Ok-Some-clause-bytes
returns-in-Ok-Some-clause-bytes g c = further_one c.third_input.result (plan_of c.args.plan) c.third_input.ensures.input (g.S.Shelf.view c.args.shelf.now).kept c.in-Some.third c.in-Ok-Some.bytes.items c.in-Some.is (found_some c.in-Ok-Some.field-0 c.in-Ok-Some.bytes _ _ c.in-Ok-Some.field-0-is c.in-Ok-Some.ensures.bytes).0

pub returns-in-Ok-Some-clause-read : goal.returns-in-Ok-Some-clause-read
returns-in-Ok-Some-clause-read g c =
    let all = c.in-Ok-Some.ensures in
    one_read c.third_input.result (further_of (inputs_of (plan_of c.args.plan))) c.third_input.ensures.input
    (g.S.Shelf.view c.args.shelf.now)
    (g.S.Shelf.view c.read_document.new.shelf)
    c.in-Some.third c.in-Some.is (record { same = all.same; reads = all.quiet; writes = all.writes; called = all.called })

-- ---- It is too long

pub returns-in-Ok-None-clause-stop : goal.returns-in-Ok-None-clause-stop
returns-in-Ok-None-clause-stop g c =
    let s = c.in-Ok.survey in
    let p = sourced (program_of c.args.typed.now) in
    let first = c.args.second.now in
    let i = c.in-Some.third in
    let taken = first_taken c.third_input.result (plan_of c.args.plan) c.third_input.ensures.input {names = c.args.names.now} i c.in-Some.is p first s.table s.ty s.bytes c.requires.most (c.payload-packed.ensures.packed.0, c.payload-packed.ensures.packed.1) c.in-Ok.ensures.file in
    long_further c.third_input.result (plan_of c.args.plan) c.third_input.ensures.input
    (g.S.Shelf.view c.args.shelf.now)
    (g.S.Shelf.view c.read_document.new.shelf)
    i c.in-Some.is c.in-Some.ensures.most p first taken (found_none c.in-Ok-None.field-0 _ _ c.in-Ok-None.field-0-is c.in-Ok-None.ensures.bytes)

pub returns-in-Ok-None-clause-stopped : goal.returns-in-Ok-None-clause-stopped
returns-in-Ok-None-clause-stopped g c =
    let all = c.in-Ok-None.ensures in
    let before = g.S.Shelf.view c.args.shelf.now in
    let now = g.S.Shelf.view c.read_document.new.shelf in
    let i = c.in-Some.third in
    one_stopped c.third_input.result (further_of (inputs_of (plan_of c.args.plan))) c.third_input.ensures.input before now i _ c.in-Some.is
    (stopped_behind before now (read_calls (document_of i.document) i.most) _ (record { same = all.same; reads = all.quiet; writes = all.writes; called = all.called }))

-- ---- It is not read

pub returns-in-Err-read_document-clause-stop : goal.returns-in-Err-read_document-clause-stop
returns-in-Err-read_document-clause-stop g c =
    let s = c.in-Ok.survey in
    let p = sourced (program_of c.args.typed.now) in
    let first = c.args.second.now in
    let i = c.in-Some.third in
    let taken = first_taken c.third_input.result (plan_of c.args.plan) c.third_input.ensures.input {names = c.args.names.now} i c.in-Some.is p first s.table s.ty s.bytes c.requires.most (c.payload-packed.ensures.packed.0, c.payload-packed.ensures.packed.1) c.in-Ok.ensures.file in
    read_further_stop c.third_input.result (plan_of c.args.plan) c.third_input.ensures.input
    (g.S.Shelf.view c.args.shelf.now)
    (g.S.Shelf.view c.read_document.new.shelf)
    i c.in-Some.is p first taken c.in-Err-read_document.stop c.in-Err-read_document.ensures.stop

pub returns-in-Err-read_document-clause-stopped : goal.returns-in-Err-read_document-clause-stopped
returns-in-Err-read_document-clause-stopped g c =
    let all = c.in-Err-read_document.ensures in
    one_stopped c.third_input.result (further_of (inputs_of (plan_of c.args.plan))) c.third_input.ensures.input
    (g.S.Shelf.view c.args.shelf.now)
    (g.S.Shelf.view c.read_document.new.shelf)
    c.in-Some.third c.in-Err-read_document.stop c.in-Some.is (record { same = all.same; later = all.later; reads = all.reads; writes = all.writes; once = all.once })
