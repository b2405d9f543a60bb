use Rattle.std.proofs.Common.{List, length, sym, ap, subst₂, arith, length-append}
use Rattle.gib_compact.specs.declared.piece.Piece.{Piece}
use Rattle.gib_compact.specs.Back.{Parts, IsSplit}
use Rattle.gib_compact.proofs.BackLemmas.{parts_of}
use Rattle.gib_compact.proofs.share.deal.Goals as goal

pub returns-clause-parts : goal.returns-clause-parts
returns-clause-parts c = λ bytes l.
    let split : IsSplit c.args.pass c.split-other.new.self c.split-other.result = record { left = c.split-other.ensures.left; right = c.split-other.ensures.right; knows = c.split-other.ensures.knows.0 } in
    subst₂ (λ (x y : List Piece). Parts c.args.packing.layouts.now c.split-other.new.self c.split-other.result x y bytes) (sym c.split_at.ensures.front) (sym c.split_at.ensures.back)
    (parts_of c.args.pass c.split-other.new.self c.split-other.result c.args.count c.args.pieces.now split l)

pub returns-clause-first : goal.returns-clause-first
returns-clause-first c =
    let r = c.requires.cut in
    let p = returns-clause-parts c r.0 r.1 in
    (p.xs, p.first)

pub returns-clause-rest : goal.returns-clause-rest
returns-clause-rest c =
    let r = c.requires.cut in
    let p = returns-clause-parts c r.0 r.1 in
    (p.ys, p.second)

pub returns-clause-few : goal.returns-clause-few
returns-clause-few c = λ most r.
    let p = returns-clause-parts c r.bytes r.cut in
    (record { bytes = p.xs; cut = p.first; few = omega (arith, r.few, ap length p.whole, length-append p.xs p.ys) }, record { bytes = p.ys; cut = p.second; few = omega (arith, r.few, ap length p.whole, length-append p.xs p.ys) })
