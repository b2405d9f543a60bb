use Rattle.std.proofs.Common.{[], ◌∙◌, Ok, Err, ap, inl, inr, refl, sym, subst}
use Rattle.gib_edge.specs.Views.{ShelfView, SinkView}
use Rattle.gib_app.specs.Lines.{line, said_text}
use Rattle.gib_app.specs.Stopping.{Answer}
use Rattle.gib_words.specs.Words.{bytes_of}
use Rattle.gib_located.specs.LocatedSource.{IsEnd}
use Rattle.gib_located.specs.LocatedScript.{halt_for}
use Rattle.gib_app.proofs.Calling.{is_put}
use Rattle.gib_located.proofs.Saying.{nothing_put}
use Rattle.gib_located.proofs.Scripted.{status_of_fault}
use Rattle.gib_located.proofs.Leaving.{same, reads_later, reads, writes, quiet, calls}
use Rattle.gib_located.proofs.located.located.Goals as goal

pub returns-in-Ok-clause-ends : goal.returns-in-Ok-clause-ends
returns-in-Ok-clause-ends g c = ([], inl (refl, refl, c.in-Ok.ensures.printed), nothing_put (g.E.Sink.view c.args.err.now))

pub returns-in-Ok-clause-follows : goal.returns-in-Ok-clause-follows
returns-in-Ok-clause-follows g c = record { result = Ok (tt {0}); follows = c.in-Ok.ensures.follows; ends = refl }

pub returns-clause-ends : goal.returns-clause-ends
returns-clause-ends g c =
    let before : ShelfView = g.S.Shelf.view c.args.shelf.now in
    let now : ShelfView = g.S.Shelf.view c.call.new.shelf in
    let a : SinkView = g.O.Sink.view c.args.out.now in
    let b : SinkView = g.O.Sink.view c.call.new.out in
    let words = bytes_of c.args.words.now in
    let P : Answer → Type 0 = λ x. IsEnd words before now a b x.status (line x.said) in (
      line (said_text c.answer-answer.result.said),
      subst P (sym c.answer-answer.ensures) (inr (c.in-Err.fault, c.in-Err.ensures.fault, refl, refl)),
      is_put c.put_line.result (g.E.Sink.view c.args.err.now) (g.E.Sink.view c.put_line.new.err) (said_text c.answer-answer.result.said) c.put_line.ensures.ok c.put_line.ensures.part c.put_line.ensures.cause,
    )

pub returns-clause-follows : goal.returns-clause-follows
returns-clause-follows g c = record {
  result = Err (halt_for c.in-Err.fault);
  follows = c.in-Err.ensures.follows;
  ends = ap (λ (x : Answer). x.status) c.answer-answer.ensures ∙ status_of_fault c.in-Err.fault;
}

pub returns-in-Ok-clause-same : goal.returns-in-Ok-clause-same
returns-in-Ok-clause-same g c = same (returns-in-Ok-clause-follows g c)

pub returns-in-Ok-clause-reads_later : goal.returns-in-Ok-clause-reads_later
returns-in-Ok-clause-reads_later g c = reads_later (returns-in-Ok-clause-follows g c)

pub returns-in-Ok-clause-reads : goal.returns-in-Ok-clause-reads
returns-in-Ok-clause-reads g c = reads (returns-in-Ok-clause-follows g c)

pub returns-in-Ok-clause-writes : goal.returns-in-Ok-clause-writes
returns-in-Ok-clause-writes g c = writes (returns-in-Ok-clause-follows g c)

pub returns-in-Ok-clause-quiet : goal.returns-in-Ok-clause-quiet
returns-in-Ok-clause-quiet g c = quiet (returns-in-Ok-clause-follows g c)

pub returns-in-Ok-clause-calls : goal.returns-in-Ok-clause-calls
returns-in-Ok-clause-calls g c = calls (returns-in-Ok-clause-follows g c)

pub returns-clause-same : goal.returns-clause-same
returns-clause-same g c = same (returns-clause-follows g c)

pub returns-clause-reads_later : goal.returns-clause-reads_later
returns-clause-reads_later g c = reads_later (returns-clause-follows g c)

pub returns-clause-reads : goal.returns-clause-reads
returns-clause-reads g c = reads (returns-clause-follows g c)

pub returns-clause-writes : goal.returns-clause-writes
returns-clause-writes g c = writes (returns-clause-follows g c)

pub returns-clause-quiet : goal.returns-clause-quiet
returns-clause-quiet g c = quiet (returns-clause-follows g c)

pub returns-clause-calls : goal.returns-clause-calls
returns-clause-calls g c = calls (returns-clause-follows g c)
