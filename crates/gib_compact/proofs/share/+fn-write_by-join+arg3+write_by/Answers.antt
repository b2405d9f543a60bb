use Rattle.std.proofs.Common.{◌≡◌, List, ℕ, ◌++◌, ap, subst, ◌∙◌, append_assoc}
use Rattle.std.specs.Prelude.{IfOk}
use Rattle.gib_compact.specs.Gathered.{gathered}
use Rattle.gib_compact.proofs.BackLemmas.{Rejoined, is_out, joins_back}
use Rattle.gib_compact.proofs.share.+fn-write_by-join+arg3+write_by.Goals as goal

pub join-requires-clause-out : goal.join-requires-clause-out
join-requires-clause-out g t c =
    let a = c.args.packing.arena.now in
    let j : Rejoined a c.args.pass c.deal-mine.result.0 c.deal-mine.result.1 c.join-a.result.0.1 c.join-a.result.1.1 = record { split = c.deal-mine.ensures.split; first = c.join-a.ensures.first.1; second = c.join-a.ensures.second.1 } in
    is_out a c.args.pass c.deal-mine.result.0 c.deal-mine.result.1 c.join-a.result.0.1 c.join-a.result.1.1 c.join-a.result.0.1 j c.requires.none_out

pub returns-clause-back : goal.returns-clause-back
returns-clause-back g t c =
    let a = c.args.packing.arena.now in
    let j : Rejoined a c.args.pass c.deal-mine.result.0 c.deal-mine.result.1 c.join-a.result.0.1 c.join-a.result.1.1 = record { split = c.deal-mine.ensures.split; first = c.join-a.ensures.first.1; second = c.join-a.ensures.second.1 } in
    let both = c.join.ensures.both in
    joins_back a c.args.pass c.deal-mine.result.0 c.deal-mine.result.1 c.join-a.result.0.1 c.join-a.result.1.1 c.join.new.self j c.requires.none_out c.join.ensures.of both.0 both.1 c.join.ensures.known.0 c.join.ensures.free.0

pub returns-then-workers-le1-clause-out : goal.returns-then-workers-le1-clause-out
returns-then-workers-le1-clause-out g t c = λ bytes l. c.alone.ensures (c.args.out.items ++ bytes) (c.write_alone-all.ensures.out bytes l)

pub returns-clause-out : goal.returns-clause-out
returns-clause-out g t c = λ bytes l.
    let p = c.deal-mine.ensures.parts bytes l in
    subst (λ (b : List ℕ). IfOk c.in_front.result (λ parts. gathered parts.items ≡ b))
    (append_assoc c.args.out.items p.xs p.ys ∙ ap (λ (q : List ℕ). c.args.out.items ++ q) p.whole)
    (c.in_front.ensures (c.args.out.items ++ p.xs) p.ys (c.join-a.ensures.first.0 p.xs p.first) (c.join-a.ensures.second.0 p.ys p.second))
