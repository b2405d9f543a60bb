use Rattle.std.proofs.Common.{◌≡◌, ◌+◌, ◌≤◌, ℕ, List, length, sym, ap, subst, arith}
use Rattle.gib_types.specs.declared.layouts.Layout.{Layout}
use Rattle.gib_compact.specs.Counts.{IsCount}
use Rattle.gib_compact.proofs.CutLemmas.{head_stands, part_stands}
use Rattle.gib_compact.proofs.pieces.count_one.Goals as goal

pub returns-then-bytes-packing-clause-count : goal.returns-then-bytes-packing-clause-count
returns-then-bytes-packing-clause-count g c = λ bytes i.
    let h = head_stands c.in-Head.is i in
    omega (arith, ap length h.2, h.1.long, ap (λ (l : Layout). l.scalars) c.layout.ensures, c.if-bytes-packing.true)

pub returns-else-bytes-packing-clause-count : goal.returns-else-bytes-packing-clause-count
returns-else-bytes-packing-clause-count g c = λ bytes i.
    let h = head_stands c.in-Head.is i in
    let e : length bytes ≡ c.layout.result.scalars + 1 = omega (arith, ap length h.2, h.1.long, ap (λ (l : Layout). l.scalars) c.layout.ensures) in
    let f : c.layout.result.scalars + 1 ≤ c.args.packing.most = omega (arith, c.if-bytes-packing.false) in
    (e, f)

pub returns-in_ok-count-in-Part-clause-count : goal.returns-in_ok-count-in-Part-clause-count
returns-in_ok-count-in-Part-clause-count g c = λ bytes i.
    let p = part_stands c.in-Part.is i in
    subst (λ (x : List ℕ). IsCount (length x) c.args.packing.most c.in_ok-count-in-Part.count) (sym p.4) (c.in_ok-count-in-Part.ensures.count p.0 p.1 p.2 p.3)
