use Rattle.std.proofs.Common.{List, ℕ, ◌++◌}
use Rattle.std.specs.Prelude.{codes}
use Rattle.std.specs.Fmt.{decimal}
use Rattle.gib_edge.proofs.Pieces.{on_err}
use Rattle.gib_app.proofs.Calling.{added_front, added_part, added_two}
use Rattle.gib_app.proofs.lines.put_rule.Goals as goal

pub returns-clause-ok : goal.returns-clause-ok
returns-clause-ok g c =
    let said : List ℕ = decimal c.args.rule ++ (codes " at term " ++ decimal c.args.term) in
    added_two (g.E.Sink.view c.args.err.now).taken (g.E.Sink.view c.put_all.new.out).taken (g.E.Sink.view c.put_term.new.err).taken
    c.args.words.now said c.in_ok-put_all.ensures.ok c.in_ok-put_term.ensures.ok

pub returns-in_err-put_all-clause-part : goal.returns-in_err-put_all-clause-part
returns-in_err-put_all-clause-part g c =
    let said : List ℕ = decimal c.args.rule ++ (codes " at term " ++ decimal c.args.term) in
    on_err c.from_residual.result (added_front (g.E.Sink.view c.args.err.now).taken (g.E.Sink.view c.put_all.new.out).taken c.args.words.now said c.in_err-put_all.ensures.part)

pub returns-in_err-put_term-clause-part : goal.returns-in_err-put_term-clause-part
returns-in_err-put_term-clause-part g c =
    let said : List ℕ = decimal c.args.rule ++ (codes " at term " ++ decimal c.args.term) in
    on_err c.from_residual-in_err-put_term.result
    (added_part (g.E.Sink.view c.args.err.now).taken (g.E.Sink.view c.put_all.new.out).taken (g.E.Sink.view c.put_term.new.err).taken c.args.words.now said c.in_ok-put_all.ensures.ok c.in_err-put_term.ensures.part)
