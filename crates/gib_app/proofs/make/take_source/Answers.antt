use Rattle.std.proofs.Common.{List, ℕ, subst}
use Rattle.gib_app.specs.Calls.{read_calls}
use Rattle.gib_app.specs.FromSource.{IsTaken, IsTakingStop}
use Rattle.gib_words.specs.Kept.{document_of}
use Rattle.gib_app.proofs.AfterReads.{stopped_behind}
use Rattle.gib_app.proofs.Making.{found_none, found_some, long_source, taking_source}
use Rattle.gib_app.proofs.make.take_source.Goals as goal

-- src/make.rt
pub returns-in-Ok-None-clause-stop : goal.returns-in-Ok-None-clause-stop
returns-in-Ok-None-clause-stop g c =
    long_source c.args.dialect (g.S.Shelf.view c.args.shelf.now) (g.S.Shelf.view c.read_document.new.shelf) (document_of c.args.document) (found_none c.in-Ok-None.field-0 _ _ c.in-Ok-None.field-0-is c.in-Ok-None.ensures.bytes)

pub returns-in-Ok-None-clause-stopped : goal.returns-in-Ok-None-clause-stopped
returns-in-Ok-None-clause-stopped g c =
    let all = c.in-Ok-None.ensures in
    stopped_behind (g.S.Shelf.view c.args.shelf.now) (g.S.Shelf.view c.read_document.new.shelf) (read_calls (document_of c.args.document) 1048576) _
    (record { same = all.same; reads = all.quiet; writes = all.writes; called = all.called })

pub returns-in-Err-clause-stopped : goal.returns-in-Err-clause-stopped
returns-in-Err-clause-stopped g c =
    let all = c.in-Err.ensures in
    record { same = all.same; later = all.later; reads = all.reads; writes = all.writes; once = all.once }

pub returns-in-Ok-clause-read : goal.returns-in-Ok-clause-read
returns-in-Ok-clause-read g c =
    let all = c.in-Ok-Some.ensures in
    record { same = all.same; reads = all.quiet; writes = all.writes; called = all.called }

pub returns-clause-stopped : goal.returns-clause-stopped
returns-clause-stopped g c =
    let all = c.in-Ok-Some.ensures in
    stopped_behind (g.S.Shelf.view c.args.shelf.now) (g.S.Shelf.view c.read_document.new.shelf) (read_calls (document_of c.args.document) 1048576) c.in-Err-taken_from.stop
    (record { same = all.same; reads = all.quiet; writes = all.writes; called = all.called })

pub returns-clause-stop : goal.returns-clause-stop
returns-clause-stop g c =
    let before = g.S.Shelf.view c.args.shelf.now in
    let now' = g.S.Shelf.view c.read_document.new.shelf in
    let S : List ℕ → Type 0 = λ source. IsTakingStop c.args.dialect source c.in-Err-taken_from.stop in
    let found = found_some c.in-Ok-Some.field-0 c.in-Ok-Some.source _ _ c.in-Ok-Some.field-0-is c.in-Ok-Some.ensures.bytes in
    taking_source c.args.dialect before now' (document_of c.args.document) c.in-Ok-Some.source.items found.0 c.in-Err-taken_from.stop (subst S c.deref.ensures.value c.in-Err-taken_from.ensures.stop)

pub returns-in-Ok-clause-taken : goal.returns-in-Ok-clause-taken
returns-in-Ok-clause-taken g c =
    let found = found_some c.in-Ok-Some.field-0 c.in-Ok-Some.source _ _ c.in-Ok-Some.field-0-is c.in-Ok-Some.ensures.bytes in
    let S : List ℕ → Type 0 = λ source. IsTaken c.args.dialect c.in-Ok.taken source in
    record { source = c.in-Ok-Some.source.items; source_held = found.0; holds = subst S c.deref.ensures.value c.in-Ok.ensures.taken }
