use Rattle.std.proofs.Common.{List, ℕ, ◌++◌}
use Rattle.std.specs.Prelude.{codes}
use Rattle.std.specs.Fmt.{decimal}
use Rattle.gib_edge.proofs.Pieces.{on_err}
use Rattle.gib_app.proofs.Calling.{added_front, added_part, added_two}
use Rattle.gib_app.proofs.lines.put_term.Goals as goal

pub returns-clause-ok : goal.returns-clause-ok
returns-clause-ok g c =
    let behind : List ℕ = codes " at term " ++ decimal c.args.term in
    added_two (g.E.Sink.view c.args.err.now).taken (g.E.Sink.view c.put_number.new.err).taken (g.E.Sink.view c.put_numbered.new.err).taken
    (decimal c.args.rule) behind c.in_ok-put_number.ensures.ok c.in_ok-put_numbered.ensures.ok

pub returns-in_err-put_number-clause-part : goal.returns-in_err-put_number-clause-part
returns-in_err-put_number-clause-part g c =
    let behind : List ℕ = codes " at term " ++ decimal c.args.term in
    on_err c.from_residual.result (added_front (g.E.Sink.view c.args.err.now).taken (g.E.Sink.view c.put_number.new.err).taken (decimal c.args.rule) behind c.in_err-put_number.ensures.part)

pub returns-in_err-put_numbered-clause-part : goal.returns-in_err-put_numbered-clause-part
returns-in_err-put_numbered-clause-part g c =
    let behind : List ℕ = codes " at term " ++ decimal c.args.term in
    on_err c.from_residual-in_err-put_numbered.result
    (added_part (g.E.Sink.view c.args.err.now).taken (g.E.Sink.view c.put_number.new.err).taken (g.E.Sink.view c.put_numbered.new.err).taken (decimal c.args.rule) behind
    c.in_ok-put_number.ensures.ok c.in_err-put_numbered.ensures.part)
