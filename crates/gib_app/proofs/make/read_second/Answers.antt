use Rattle.gib_app.specs.Calls.{read_calls}
use Rattle.gib_app.specs.Causes.{first_of}
use Rattle.gib_app.specs.Formats.{inputs_of}
use Rattle.gib_words.specs.Kept.{document_of, plan_of}
use Rattle.gib_app.proofs.AfterReads.{none_there, one_read, one_stopped, stopped_behind}
use Rattle.gib_app.proofs.Making.{long_input, found_none}
use Rattle.gib_app.proofs.make.read_second.Goals as goal

pub returns-in_default-clause-read : goal.returns-in_default-clause-read
returns-in_default-clause-read g c = none_there c.second_input.result (first_of (inputs_of (plan_of c.args.plan))) c.second_input.ensures.input (g.S.Shelf.view c.args.shelf.now) c.in_default.is

pub returns-in-Ok-Some-clause-read : goal.returns-in-Ok-Some-clause-read
returns-in-Ok-Some-clause-read g c =
    let all = c.in-Ok-Some.ensures in
    one_read c.second_input.result (first_of (inputs_of (plan_of c.args.plan))) c.second_input.ensures.input
    (g.S.Shelf.view c.args.shelf.now)
    (g.S.Shelf.view c.read_document.new.shelf)
    c.in-Some.input c.in-Some.is (record { same = all.same; reads = all.quiet; writes = all.writes; called = all.called })

pub returns-in-Ok-None-clause-stop : goal.returns-in-Ok-None-clause-stop
returns-in-Ok-None-clause-stop g c =
    long_input c.second_input.result (plan_of c.args.plan) c.second_input.ensures.input
    (g.S.Shelf.view c.args.shelf.now)
    (g.S.Shelf.view c.read_document.new.shelf)
    c.in-Some.input c.in-Some.is c.in-Some.ensures.most (found_none c.in-Ok-None.field-0 _ _ c.in-Ok-None.field-0-is c.in-Ok-None.ensures.bytes)

pub returns-in-Ok-None-clause-stopped : goal.returns-in-Ok-None-clause-stopped
returns-in-Ok-None-clause-stopped g c =
    let all = c.in-Ok-None.ensures in
    let before = g.S.Shelf.view c.args.shelf.now in
    let now = g.S.Shelf.view c.read_document.new.shelf in
    let i = c.in-Some.input in
    one_stopped c.second_input.result (first_of (inputs_of (plan_of c.args.plan))) c.second_input.ensures.input before now i _ c.in-Some.is
    (stopped_behind before now (read_calls (document_of i.document) i.most) _ (record { same = all.same; reads = all.quiet; writes = all.writes; called = all.called }))

pub returns-in-Err-clause-stopped : goal.returns-in-Err-clause-stopped
returns-in-Err-clause-stopped g c =
    let all = c.in-Err.ensures in
    one_stopped c.second_input.result (first_of (inputs_of (plan_of c.args.plan))) c.second_input.ensures.input
    (g.S.Shelf.view c.args.shelf.now)
    (g.S.Shelf.view c.read_document.new.shelf)
    c.in-Some.input c.in-Err.stop c.in-Some.is (record { same = all.same; later = all.later; reads = all.reads; writes = all.writes; once = all.once })
