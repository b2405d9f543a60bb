use Rattle.std.proofs.Common.{[], ◌∷◌, ◌++◌}
use Rattle.std.specs.Prelude.{codes}
use Rattle.gib_edge.proofs.Pieces.{on_err}
use Rattle.gib_app.specs.Lines.{said_text}
use Rattle.gib_app.proofs.Calling.{added_front, added_part}
use Rattle.gib_app.proofs.lines.put_line.Goals as goal

pub returns-in_err-put_all-clause-part : goal.returns-in_err-put_all-clause-part
returns-in_err-put_all-clause-part g c =
    on_err c.from_residual.result
    (added_front (g.E.Sink.view c.args.err.now).taken (g.E.Sink.view c.put_all.new.out).taken (codes "gib: ") (said_text c.args.said ++ 10 ∷ []) c.in_err-put_all.ensures.part)

pub returns-in_err-put_said-clause-part : goal.returns-in_err-put_said-clause-part
returns-in_err-put_said-clause-part g c =
    let rest = added_front (g.E.Sink.view c.put_all.new.out).taken (g.E.Sink.view c.put_said.new.err).taken (said_text c.args.said) (10 ∷ []) c.in_err-put_said.ensures.part in
    on_err c.from_residual-in_err-put_said.result
    (added_part (g.E.Sink.view c.args.err.now).taken (g.E.Sink.view c.put_all.new.out).taken (g.E.Sink.view c.put_said.new.err).taken (codes "gib: ") (said_text c.args.said ++ 10 ∷ [])
    c.in_ok-put_all.ensures.ok rest)

pub returns-in_err-put_all-2-clause-part : goal.returns-in_err-put_all-2-clause-part
returns-in_err-put_all-2-clause-part g c =
    let rest = added_part (g.E.Sink.view c.put_all.new.out).taken (g.E.Sink.view c.put_said.new.err).taken (g.E.Sink.view c.put_all-2.new.out).taken (said_text c.args.said) (10 ∷ [])
    c.in_ok-put_said.ensures.ok c.in_err-put_all-2.ensures.part in
    on_err c.from_residual-in_err-put_all-2.result
    (added_part (g.E.Sink.view c.args.err.now).taken (g.E.Sink.view c.put_all.new.out).taken (g.E.Sink.view c.put_all-2.new.out).taken (codes "gib: ") (said_text c.args.said ++ 10 ∷ [])
    c.in_ok-put_all.ensures.ok rest)
