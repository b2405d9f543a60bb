use Rattle.std.proofs.Common.{refl, sym}
use Rattle.gib_app.specs.Calls.{input_calls, read_calls}
use Rattle.gib_app.specs.Formats.{inputs_of}
use Rattle.gib_words.specs.Kept.{plan_of}
use Rattle.gib_app.proofs.AfterReads.{both_read, stopped_in_front, stopped_next}
use Rattle.gib_app.proofs.Making.{source_stop, stop_in}
use Rattle.gib_app.proofs.Finishing.{taken_stands, all_comes, all_done, all_stops}
use Rattle.gib_app.proofs.make.make.Goals as goal

-- src/make.rt

-- ---- The source is no program

pub returns-in-Err-clause-stop : goal.returns-in-Err-clause-stop
returns-in-Err-clause-stop g c =
    let r = plan_of c.args.plan in
    let before = g.S.Shelf.view c.args.shelf.now in
    let now' = g.S.Shelf.view c.take_source.new.shelf in
    source_stop before now' r r.source refl c.in-Err.stop (stop_in before now' r r.source c.in-Err.stop c.dialect_of.result (sym c.dialect_of.ensures) c.in-Err.ensures.stop)

pub returns-in-Err-clause-stopped : goal.returns-in-Err-clause-stopped
returns-in-Err-clause-stopped g c =
    let r = plan_of c.args.plan in
    stopped_in_front (g.S.Shelf.view c.args.shelf.now) (g.S.Shelf.view c.take_source.new.shelf) (read_calls r.source 1048576) (input_calls (inputs_of r)) c.in-Err.stop c.in-Err.ensures.stopped

-- ---- It left what the job takes

pub finish-requires-clause-stands : goal.finish-requires-clause-stands
finish-requires-clause-stands g c κs within =
    taken_stands (g.S.Shelf.view c.args.shelf.now) (plan_of c.args.plan) c.dialect_of.result (sym c.dialect_of.ensures) c.in-Ok.taken c.in-Ok.ensures.taken

pub returns-in-Ok-finish-clause-made : goal.returns-in-Ok-finish-clause-made
returns-in-Ok-finish-clause-made g c =
    all_done (g.S.Shelf.view c.args.shelf.now) (plan_of c.args.plan) c.dialect_of.result (sym c.dialect_of.ensures) c.in-Ok.taken c.in-Ok.ensures.taken
    (g.S.Shelf.view c.take_source.new.shelf) c.in-Ok.ensures.read.same c.in-Ok-finish.made c.in-Ok-finish.ensures.made

pub returns-in-Ok-finish-clause-region : goal.returns-in-Ok-finish-clause-region
returns-in-Ok-finish-clause-region g c =
    all_comes (g.S.Shelf.view c.args.shelf.now) (plan_of c.args.plan) c.dialect_of.result (sym c.dialect_of.ensures) c.in-Ok.taken c.in-Ok.ensures.taken
    (g.S.Shelf.view c.take_source.new.shelf) c.in-Ok.ensures.read.same c.in-Ok-finish.made c.in-Ok-finish.ensures.made

pub returns-in-Ok-finish-clause-read : goal.returns-in-Ok-finish-clause-read
returns-in-Ok-finish-clause-read g c =
    let r = plan_of c.args.plan in
    both_read (g.S.Shelf.view c.args.shelf.now) (g.S.Shelf.view c.take_source.new.shelf) (g.S.Shelf.view c.finish.new.shelf) (read_calls r.source 1048576) (input_calls (inputs_of r))
    c.in-Ok.ensures.read c.in-Ok-finish.ensures.read

pub returns-in-Err-finish-clause-stop : goal.returns-in-Err-finish-clause-stop
returns-in-Err-finish-clause-stop g c =
    all_stops (g.S.Shelf.view c.args.shelf.now) (plan_of c.args.plan) c.dialect_of.result (sym c.dialect_of.ensures) c.in-Ok.taken c.in-Ok.ensures.taken
    (g.S.Shelf.view c.take_source.new.shelf) (g.S.Shelf.view c.finish.new.shelf) c.in-Ok.ensures.read c.in-Err-finish.stop c.in-Err-finish.ensures.stop

pub returns-in-Err-finish-clause-stopped : goal.returns-in-Err-finish-clause-stopped
returns-in-Err-finish-clause-stopped g c =
    let r = plan_of c.args.plan in
    stopped_next (g.S.Shelf.view c.args.shelf.now) (g.S.Shelf.view c.take_source.new.shelf) (g.S.Shelf.view c.finish.new.shelf) (read_calls r.source 1048576) (input_calls (inputs_of r))
    c.in-Ok.ensures.read c.in-Err-finish.stop c.in-Err-finish.ensures.stopped
