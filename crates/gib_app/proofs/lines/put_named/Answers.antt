use Rattle.std.proofs.Common.{ℕ, List, subst}
use Rattle.gib_edge.specs.Causes.{AppendsPart}
use Rattle.gib_edge.proofs.Pieces.{on_err}
use Rattle.gib_app.proofs.Calling.{added_front, added_part}
use Rattle.gib_app.proofs.lines.put_named.Goals as goal

pub returns-in_err-put_all-clause-part : goal.returns-in_err-put_all-clause-part
returns-in_err-put_all-clause-part g c =
    on_err c.from_residual.result (added_front (g.E.Sink.view c.args.err.now).taken (g.E.Sink.view c.put_all.new.out).taken c.args.words.now c.args.name.now c.in_err-put_all.ensures.part)

pub returns-in_err-put_all-2-clause-part : goal.returns-in_err-put_all-2-clause-part
returns-in_err-put_all-2-clause-part g c =
    let P : List ℕ → Type 0 = AppendsPart (g.E.Sink.view c.put_all.new.out).taken (g.E.Sink.view c.put_all-2.new.out).taken in
    on_err c.from_residual-in_err-put_all-2.result
    (added_part (g.E.Sink.view c.args.err.now).taken (g.E.Sink.view c.put_all.new.out).taken (g.E.Sink.view c.put_all-2.new.out).taken c.args.words.now c.args.name.now
    c.in_ok-put_all.ensures.ok (subst P c.as_bytes.ensures.value c.in_err-put_all-2.ensures.part))
