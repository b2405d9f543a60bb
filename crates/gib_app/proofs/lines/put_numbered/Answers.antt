use Rattle.std.specs.Fmt.{decimal}
use Rattle.gib_edge.proofs.Pieces.{on_err}
use Rattle.gib_app.proofs.Calling.{added_front, added_part}
use Rattle.gib_app.proofs.lines.put_numbered.Goals as goal

pub returns-in_err-put_all-clause-part : goal.returns-in_err-put_all-clause-part
returns-in_err-put_all-clause-part g c =
    on_err c.from_residual.result
    (added_front (g.E.Sink.view c.args.err.now).taken (g.E.Sink.view c.put_all.new.out).taken c.args.words.now (decimal c.args.number) c.in_err-put_all.ensures.part)

pub returns-in_err-put_number-clause-part : goal.returns-in_err-put_number-clause-part
returns-in_err-put_number-clause-part g c =
    on_err c.from_residual-in_err-put_number.result
    (added_part (g.E.Sink.view c.args.err.now).taken (g.E.Sink.view c.put_all.new.out).taken (g.E.Sink.view c.put_number.new.err).taken c.args.words.now (decimal c.args.number)
    c.in_ok-put_all.ensures.ok c.in_err-put_number.ensures.part)
