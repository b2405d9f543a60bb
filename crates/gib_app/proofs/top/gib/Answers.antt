use Rattle.std.proofs.Common.{[], refl, sym, subst, arith}
use Rattle.gib_types.specs.declared.reason.Reason.TheVariants as reason
use Rattle.gib_app.specs.declared.status.Status.{Status}
use Rattle.gib_app.specs.declared.status.Status.TheVariants as status
use Rattle.gib_words.specs.Words.{bytes_of}
use Rattle.gib_edge.specs.Views.{ShelfView, SinkView}
use Rattle.gib_app.specs.Lines.{line, said_text}
use Rattle.gib_app.specs.Ending.{IsEnding, IsDueOrScarce}
use Rattle.gib_script.specs.Script.{World}
use Rattle.gib_app.specs.Performing.{StaysWith}
use Rattle.gib_app.specs.Stopping.{Answer, answer_for}
use Rattle.gib_app.proofs.Calling.{added_none, added_whole, is_put}
use Rattle.gib_app.specs.Headline.{IsOrScarce, TellsWhatIsMeant}
use Rattle.gib_app.proofs.CallCauses.{ending_of}
use Rattle.gib_app.proofs.Endings.{ends_as_due}
use Rattle.gib_app.proofs.OneProgram.{Laws}
use Rattle.gib_app.proofs.Headlines.{run_tells, run_ends_done, run_ends_valueless}
use Rattle.gib_app.proofs.top.gib.Goals as goal

pub returns-in-Ok-clause-ends : goal.returns-in-Ok-clause-ends
returns-in-Ok-clause-ends g c =
    let e : SinkView = g.E.Sink.view c.args.err.now in
    ([], (c.in-Ok.ensures.done.printed, refl), record { later = omega arith; none = λ said. refl; whole = λ quiet. added_none e.taken; part = added_whole e.taken e.taken [] (added_none e.taken) })

pub returns-in-Ok-clause-complete : goal.returns-in-Ok-clause-complete
returns-in-Ok-clause-complete g c = λ due h.
    let laws : Laws = record { lexed = c.one_reading.ensures; parsed = c.one_program.ensures; located = c.one_reading_in.ensures; texts = c.one_text.ensures; filed = c.one_file.ensures.value } in
    ends_as_due laws g.S.Shelf.tells (bytes_of c.args.words.now)
    (record { shelf = g.S.Shelf.view c.args.shelf.now; out = g.O.Sink.view c.args.out.now })
    (record { shelf = g.S.Shelf.view c.call.new.shelf; out = g.O.Sink.view c.call.new.out })
    status.Done [] (c.in-Ok.ensures.done.printed, refl) due h

pub returns-clause-ends : goal.returns-clause-ends
returns-clause-ends g c =
    let before : ShelfView = g.S.Shelf.view c.args.shelf.now in
    let now : ShelfView = g.S.Shelf.view c.call.new.shelf in
    let a : SinkView = g.O.Sink.view c.args.out.now in
    let b : SinkView = g.O.Sink.view c.call.new.out in
    let words = bytes_of c.args.words.now in
    let said = line (said_text c.answer_to-answer.result.said) in
    let P : Answer → Type 0 = λ x. IsEnding g.S.Shelf.tells words before now a b x.status (line x.said) in (
      said,
      subst P (sym c.answer_to-answer.ensures.answer) (ending_of g.S.Shelf.tells words (record { shelf = before; out = a }) (record { shelf = now; out = b }) c.in-Err.stop c.in-Err.ensures.stop.cause),
      is_put c.put_line.result (g.E.Sink.view c.args.err.now) (g.E.Sink.view c.put_line.new.err) (said_text c.answer_to-answer.result.said) c.put_line.ensures.ok c.put_line.ensures.part c.put_line.ensures.cause,
    )

pub returns-clause-complete : goal.returns-clause-complete
returns-clause-complete g c = λ due h.
    let laws : Laws = record { lexed = c.one_reading.ensures; parsed = c.one_program.ensures; located = c.one_reading_in.ensures; texts = c.one_text.ensures; filed = c.one_file.ensures.value } in
    let before : ShelfView = g.S.Shelf.view c.args.shelf.now in
    let now : ShelfView = g.S.Shelf.view c.call.new.shelf in
    let a : SinkView = g.O.Sink.view c.args.out.now in
    let b : SinkView = g.O.Sink.view c.call.new.out in
    let words = bytes_of c.args.words.now in
    let stop = c.in-Err.stop in
    let P : Answer → Type 0 = λ x. IsDueOrScarce words due x.status in
    subst P (sym c.answer_to-answer.ensures.answer)
    (ends_as_due laws g.S.Shelf.tells words (record { shelf = before; out = a }) (record { shelf = now; out = b }) (answer_for stop).status (line (answer_for stop).said) (ending_of g.S.Shelf.tells words (record { shelf = before; out = a }) (record { shelf = now; out = b }) stop c.in-Err.ensures.stop.cause) due h)

pub returns-in-Ok-clause-runs : goal.returns-in-Ok-clause-runs
returns-in-Ok-clause-runs g c =
    run_tells g.S.Shelf.tells (bytes_of c.args.words.now)
    (g.S.Shelf.view c.args.shelf.now)
    (g.S.Shelf.view c.call.new.shelf)
    (g.O.Sink.view c.args.out.now)
    (g.O.Sink.view c.call.new.out)
    status.Done [] (c.in-Ok.ensures.done.printed, refl)

pub returns-in-Ok-clause-runs_done : goal.returns-in-Ok-clause-runs_done
returns-in-Ok-clause-runs_done g c = λ source input output options front r quiet h.
    let laws : Laws = record { lexed = c.one_reading.ensures; parsed = c.one_program.ensures; located = c.one_reading_in.ensures; texts = c.one_text.ensures; filed = c.one_file.ensures.value } in
    run_ends_done laws g.S.Shelf.tells (bytes_of c.args.words.now)
    (g.S.Shelf.view c.args.shelf.now)
    (g.S.Shelf.view c.call.new.shelf)
    (g.O.Sink.view c.args.out.now)
    (g.O.Sink.view c.call.new.out)
    source input options front output [] status.Done r quiet h (c.in-Ok.ensures.done.printed, refl)

pub returns-in-Ok-clause-runs_deep : goal.returns-in-Ok-clause-runs_deep
returns-in-Ok-clause-runs_deep g c = λ source input options front r quiet h.
    let laws : Laws = record { lexed = c.one_reading.ensures; parsed = c.one_program.ensures; located = c.one_reading_in.ensures; texts = c.one_text.ensures; filed = c.one_file.ensures.value } in
    run_ends_valueless laws g.S.Shelf.tells (bytes_of c.args.words.now)
    (g.S.Shelf.view c.args.shelf.now)
    (g.S.Shelf.view c.call.new.shelf)
    (g.O.Sink.view c.args.out.now)
    (g.O.Sink.view c.call.new.out)
    source input options front [] reason.Deep status.Done r quiet h (c.in-Ok.ensures.done.printed, refl)

pub returns-clause-runs : goal.returns-clause-runs
returns-clause-runs g c = λ source input options front r.
    let before : ShelfView = g.S.Shelf.view c.args.shelf.now in
    let now : ShelfView = g.S.Shelf.view c.call.new.shelf in
    let a : SinkView = g.O.Sink.view c.args.out.now in
    let b : SinkView = g.O.Sink.view c.call.new.out in
    let words = bytes_of c.args.words.now in
    let stop = c.in-Err.stop in
    let P : Answer → Type 0 = λ x. TellsWhatIsMeant source input options.depth front b x.status in
    subst P (sym c.answer_to-answer.ensures.answer)
    (run_tells g.S.Shelf.tells words before now a b (answer_for stop).status (line (answer_for stop).said) (ending_of g.S.Shelf.tells words (record { shelf = before; out = a }) (record { shelf = now; out = b }) stop c.in-Err.ensures.stop.cause) source input options front r)

pub returns-clause-runs_done : goal.returns-clause-runs_done
returns-clause-runs_done g c = λ source input output options front r quiet h.
    let laws : Laws = record { lexed = c.one_reading.ensures; parsed = c.one_program.ensures; located = c.one_reading_in.ensures; texts = c.one_text.ensures; filed = c.one_file.ensures.value } in
    let before : ShelfView = g.S.Shelf.view c.args.shelf.now in
    let now : ShelfView = g.S.Shelf.view c.call.new.shelf in
    let a : SinkView = g.O.Sink.view c.args.out.now in
    let b : SinkView = g.O.Sink.view c.call.new.out in
    let words = bytes_of c.args.words.now in
    let stop = c.in-Err.stop in
    let P : Answer → Type 0 = λ x. IsOrScarce status.Done x.status in
    subst P (sym c.answer_to-answer.ensures.answer)
    (run_ends_done laws g.S.Shelf.tells words before now a b source input options front output (line (answer_for stop).said) (answer_for stop).status r quiet h (ending_of g.S.Shelf.tells words (record { shelf = before; out = a }) (record { shelf = now; out = b }) stop c.in-Err.ensures.stop.cause))

pub returns-clause-runs_deep : goal.returns-clause-runs_deep
returns-clause-runs_deep g c = λ source input options front r quiet h.
    let laws : Laws = record { lexed = c.one_reading.ensures; parsed = c.one_program.ensures; located = c.one_reading_in.ensures; texts = c.one_text.ensures; filed = c.one_file.ensures.value } in
    let before : ShelfView = g.S.Shelf.view c.args.shelf.now in
    let now : ShelfView = g.S.Shelf.view c.call.new.shelf in
    let a : SinkView = g.O.Sink.view c.args.out.now in
    let b : SinkView = g.O.Sink.view c.call.new.out in
    let words = bytes_of c.args.words.now in
    let stop = c.in-Err.stop in
    let P : Answer → Type 0 = λ x. IsOrScarce (status.NoValue reason.Deep) x.status in
    subst P (sym c.answer_to-answer.ensures.answer)
    (run_ends_valueless laws g.S.Shelf.tells words before now a b source input options front (line (answer_for stop).said) reason.Deep (answer_for stop).status r quiet h (ending_of g.S.Shelf.tells words (record { shelf = before; out = a }) (record { shelf = now; out = b }) stop c.in-Err.ensures.stop.cause))

-- ---- What stays

pub returns-in-Ok-clause-same : goal.returns-in-Ok-clause-same
returns-in-Ok-clause-same g c = c.in-Ok.ensures.done.stays.files

pub returns-in-Ok-clause-reads_later : goal.returns-in-Ok-clause-reads_later
returns-in-Ok-clause-reads_later g c = c.in-Ok.ensures.done.stays.counts.reads_later

pub returns-in-Ok-clause-reads : goal.returns-in-Ok-clause-reads
returns-in-Ok-clause-reads g c = c.in-Ok.ensures.done.stays.counts.reads

pub returns-in-Ok-clause-writes_later : goal.returns-in-Ok-clause-writes_later
returns-in-Ok-clause-writes_later g c = c.in-Ok.ensures.done.stays.counts.writes_later

pub returns-in-Ok-clause-writes : goal.returns-in-Ok-clause-writes
returns-in-Ok-clause-writes g c = c.in-Ok.ensures.done.stays.counts.writes

pub returns-in-Ok-clause-quiet : goal.returns-in-Ok-clause-quiet
returns-in-Ok-clause-quiet g c = c.in-Ok.ensures.done.stays.out

pub returns-in-Ok-clause-calls : goal.returns-in-Ok-clause-calls
returns-in-Ok-clause-calls g c = c.in-Ok.ensures.done.stays.calls

pub returns-clause-same : goal.returns-clause-same
returns-clause-same g c =
    let w : World = record { shelf = g.S.Shelf.view c.args.shelf.now; out = g.O.Sink.view c.args.out.now } in
    let v : World = record { shelf = g.S.Shelf.view c.call.new.shelf; out = g.O.Sink.view c.call.new.out } in
    let P : Status → Type 0 = StaysWith g.S.Shelf.tells (bytes_of c.args.words.now) w v in
    let stays = subst P (sym c.answer_to-answer.ensures.status) c.in-Err.ensures.stop.stays in
    stays.files

pub returns-clause-reads_later : goal.returns-clause-reads_later
returns-clause-reads_later g c =
    let w : World = record { shelf = g.S.Shelf.view c.args.shelf.now; out = g.O.Sink.view c.args.out.now } in
    let v : World = record { shelf = g.S.Shelf.view c.call.new.shelf; out = g.O.Sink.view c.call.new.out } in
    let P : Status → Type 0 = StaysWith g.S.Shelf.tells (bytes_of c.args.words.now) w v in
    let stays = subst P (sym c.answer_to-answer.ensures.status) c.in-Err.ensures.stop.stays in
    stays.counts.reads_later

pub returns-clause-reads : goal.returns-clause-reads
returns-clause-reads g c =
    let w : World = record { shelf = g.S.Shelf.view c.args.shelf.now; out = g.O.Sink.view c.args.out.now } in
    let v : World = record { shelf = g.S.Shelf.view c.call.new.shelf; out = g.O.Sink.view c.call.new.out } in
    let P : Status → Type 0 = StaysWith g.S.Shelf.tells (bytes_of c.args.words.now) w v in
    let stays = subst P (sym c.answer_to-answer.ensures.status) c.in-Err.ensures.stop.stays in
    stays.counts.reads

pub returns-clause-writes_later : goal.returns-clause-writes_later
returns-clause-writes_later g c =
    let w : World = record { shelf = g.S.Shelf.view c.args.shelf.now; out = g.O.Sink.view c.args.out.now } in
    let v : World = record { shelf = g.S.Shelf.view c.call.new.shelf; out = g.O.Sink.view c.call.new.out } in
    let P : Status → Type 0 = StaysWith g.S.Shelf.tells (bytes_of c.args.words.now) w v in
    let stays = subst P (sym c.answer_to-answer.ensures.status) c.in-Err.ensures.stop.stays in
    stays.counts.writes_later

pub returns-clause-writes : goal.returns-clause-writes
returns-clause-writes g c =
    let w : World = record { shelf = g.S.Shelf.view c.args.shelf.now; out = g.O.Sink.view c.args.out.now } in
    let v : World = record { shelf = g.S.Shelf.view c.call.new.shelf; out = g.O.Sink.view c.call.new.out } in
    let P : Status → Type 0 = StaysWith g.S.Shelf.tells (bytes_of c.args.words.now) w v in
    let stays = subst P (sym c.answer_to-answer.ensures.status) c.in-Err.ensures.stop.stays in
    stays.counts.writes

pub returns-clause-quiet : goal.returns-clause-quiet
returns-clause-quiet g c =
    let w : World = record { shelf = g.S.Shelf.view c.args.shelf.now; out = g.O.Sink.view c.args.out.now } in
    let v : World = record { shelf = g.S.Shelf.view c.call.new.shelf; out = g.O.Sink.view c.call.new.out } in
    let P : Status → Type 0 = StaysWith g.S.Shelf.tells (bytes_of c.args.words.now) w v in
    let stays = subst P (sym c.answer_to-answer.ensures.status) c.in-Err.ensures.stop.stays in
    stays.out

pub returns-clause-calls : goal.returns-clause-calls
returns-clause-calls g c =
    let w : World = record { shelf = g.S.Shelf.view c.args.shelf.now; out = g.O.Sink.view c.args.out.now } in
    let v : World = record { shelf = g.S.Shelf.view c.call.new.shelf; out = g.O.Sink.view c.call.new.out } in
    let P : Status → Type 0 = StaysWith g.S.Shelf.tells (bytes_of c.args.words.now) w v in
    let stays = subst P (sym c.answer_to-answer.ensures.status) c.in-Err.ensures.stop.stays in
    stays.calls
