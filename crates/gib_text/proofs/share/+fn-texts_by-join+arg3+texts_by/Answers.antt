use Rattle.std.proofs.Common.{◌≡◌, List, ℕ, subst}
use Rattle.std.specs.Prelude.{IfOk}
use Rattle.gib_compact.specs.Gathered.{gathered}
use Rattle.gib_compact.proofs.BackLemmas.{Rejoined, is_out, joins_back}
use Rattle.gib_text.proofs.share.+fn-texts_by-join+arg3+texts_by.Goals as goal

pub join-requires-clause-out : goal.join-requires-clause-out
join-requires-clause-out g t c =
    let a = c.args.sharing.arena.now in
    let j : Rejoined a c.args.pass c.deal-mine.result.0 c.deal-mine.result.1 c.join-a.result.0.1 c.join-a.result.1.1 = record { split = c.deal-mine.ensures.split; first = c.join-a.ensures.first.1; second = c.join-a.ensures.second.1 } in
    is_out a c.args.pass c.deal-mine.result.0 c.deal-mine.result.1 c.join-a.result.0.1 c.join-a.result.1.1 c.join-a.result.0.1 j c.requires.none_out

pub returns-clause-back : goal.returns-clause-back
returns-clause-back g t c =
    let a = c.args.sharing.arena.now in
    let j : Rejoined a c.args.pass c.deal-mine.result.0 c.deal-mine.result.1 c.join-a.result.0.1 c.join-a.result.1.1 = record { split = c.deal-mine.ensures.split; first = c.join-a.ensures.first.1; second = c.join-a.ensures.second.1 } in
    let both = c.join.ensures.both in
    joins_back a c.args.pass c.deal-mine.result.0 c.deal-mine.result.1 c.join-a.result.0.1 c.join-a.result.1.1 c.join.new.self j c.requires.none_out c.join.ensures.of both.0 both.1 c.join.ensures.known.0 c.join.ensures.free.0

pub returns-then-workers-le1-clause-text : goal.returns-then-workers-le1-clause-text
returns-then-workers-le1-clause-text g t c = λ bytes l. c.alone.ensures bytes (c.text_alone-text.ensures.text bytes l)

pub returns-clause-text : goal.returns-clause-text
returns-clause-text g t c = λ bytes l.
    let p = c.deal-mine.ensures.dealt bytes l in
    subst (λ (b : List ℕ). IfOk c.in_front.result (λ texts. gathered texts.items ≡ b)) p.whole (c.in_front.ensures p.xs p.ys (c.join-a.ensures.first.0 p.xs p.front) (c.join-a.ensures.second.0 p.ys p.back))
