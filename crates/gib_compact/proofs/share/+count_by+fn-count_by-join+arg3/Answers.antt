use Rattle.std.proofs.Common.{◌≡◌, ◌+◌, ◌∙◌, ℕ, length, sym, ap, subst, length-append}
use Rattle.std.specs.Prelude.{IfOk}
use Rattle.gib_compact.specs.Counts.{IsCount}
use Rattle.gib_compact.proofs.BackLemmas.{Rejoined, is_out, joins_back}
use Rattle.gib_compact.proofs.share.+count_by+fn-count_by-join+arg3.Goals as goal

pub join-requires-clause-out : goal.join-requires-clause-out
join-requires-clause-out g t c =
    let a = c.args.packing.arena.now in
    let j : Rejoined a c.args.pass c.deal-mine.result.0 c.deal-mine.result.1 c.join-last.result.0.1 c.join-last.result.1.1 = record { split = c.deal-mine.ensures.split; first = c.join-last.ensures.first.1; second = c.join-last.ensures.second.1 } in
    is_out a c.args.pass c.deal-mine.result.0 c.deal-mine.result.1 c.join-last.result.0.1 c.join-last.result.1.1 c.join-last.result.0.1 j c.requires.none_out

pub returns-clause-back : goal.returns-clause-back
returns-clause-back g t c =
    let a = c.args.packing.arena.now in
    let j : Rejoined a c.args.pass c.deal-mine.result.0 c.deal-mine.result.1 c.join-last.result.0.1 c.join-last.result.1.1 = record { split = c.deal-mine.ensures.split; first = c.join-last.ensures.first.1; second = c.join-last.ensures.second.1 } in
    let both = c.join.ensures.both in
    joins_back a c.args.pass c.deal-mine.result.0 c.deal-mine.result.1 c.join-last.result.0.1 c.join-last.result.1.1 c.join.new.self j c.requires.none_out c.join.ensures.of both.0 both.1 c.join.ensures.known.0 c.join.ensures.free.0

pub returns-clause-count : goal.returns-clause-count
returns-clause-count g t c = λ bytes l.
    let p = c.deal-mine.ensures.parts bytes l in
    let e : length bytes ≡ length p.xs + length p.ys = ap length (sym p.whole) ∙ length-append p.xs p.ys in
    subst (λ (n : ℕ). IfOk c.sum_of.result (λ r. IsCount n c.args.packing.most r)) (sym e)
    (c.sum_of.ensures (length p.xs) (length p.ys) (c.join-last.ensures.first.0 p.xs p.first) (c.join-last.ensures.second.0 p.ys p.second))
