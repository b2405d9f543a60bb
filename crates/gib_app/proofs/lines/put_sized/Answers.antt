use Rattle.std.proofs.Common.{◌++◌}
use Rattle.std.specs.Prelude.{codes}
use Rattle.std.specs.Fmt.{decimal}
use Rattle.gib_edge.proofs.Pieces.{on_err}
use Rattle.gib_app.proofs.Calling.{added_front, added_part, added_two}
use Rattle.gib_app.proofs.lines.put_sized.Goals as goal

pub returns-clause-ok : goal.returns-clause-ok
returns-clause-ok g c =
    added_two (g.E.Sink.view c.args.err.now).taken (g.E.Sink.view c.put_all.new.out).taken (g.E.Sink.view c.put_count.new.err).taken
    c.args.words.now (decimal c.args.count ++ codes " bytes") c.in_ok-put_all.ensures.ok c.in_ok-put_count.ensures.ok

pub returns-in_err-put_all-clause-part : goal.returns-in_err-put_all-clause-part
returns-in_err-put_all-clause-part g c =
    on_err c.from_residual.result
    (added_front (g.E.Sink.view c.args.err.now).taken (g.E.Sink.view c.put_all.new.out).taken c.args.words.now (decimal c.args.count ++ codes " bytes") c.in_err-put_all.ensures.part)

pub returns-in_err-put_count-clause-part : goal.returns-in_err-put_count-clause-part
returns-in_err-put_count-clause-part g c =
    on_err c.from_residual-in_err-put_count.result
    (added_part (g.E.Sink.view c.args.err.now).taken (g.E.Sink.view c.put_all.new.out).taken (g.E.Sink.view c.put_count.new.err).taken
    c.args.words.now (decimal c.args.count ++ codes " bytes") c.in_ok-put_all.ensures.ok c.in_err-put_count.ensures.part)
