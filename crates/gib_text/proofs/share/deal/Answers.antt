use Rattle.std.proofs.Common.{List, sym, subst₂}
use Rattle.gib_print.specs.declared.item.Item.{Item}
use Rattle.gib_compact.specs.Back.{IsSplit}
use Rattle.gib_text.specs.Dealt.{Dealt}
use Rattle.gib_text.proofs.DealtLemmas.{dealt_of}
use Rattle.gib_text.proofs.share.deal.Goals as goal

pub returns-clause-dealt : goal.returns-clause-dealt
returns-clause-dealt c = λ bytes l.
    let split : IsSplit c.args.pass c.split-other.new.self c.split-other.result = record { left = c.split-other.ensures.left; right = c.split-other.ensures.right; knows = c.split-other.ensures.knows.0 } in
    subst₂ (λ (x y : List Item). Dealt c.args.sharing.printing.layouts.now c.args.sharing.printing.names.now.short c.split-other.new.self c.split-other.result x y bytes) (sym c.split_at.ensures.front) (sym c.split_at.ensures.back)
    (dealt_of c.args.pass c.split-other.new.self c.split-other.result c.args.count c.args.items.now split l)

pub returns-clause-first : goal.returns-clause-first
returns-clause-first c =
    let r = c.requires.cut in
    let p = returns-clause-dealt c r.0 r.1 in
    (p.xs, p.front)

pub returns-clause-rest : goal.returns-clause-rest
returns-clause-rest c =
    let r = c.requires.cut in
    let p = returns-clause-dealt c r.0 r.1 in
    (p.ys, p.back)
