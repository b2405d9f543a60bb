use Rattle.std.proofs.Common.{ℕ, List, ◌++◌, sym, ap, ◌∙◌}
use Rattle.gib_compact.proofs.CutLemmas.{head_stands, part_stands}
use Rattle.gib_compact.proofs.pieces.write_one.Goals as goal

pub returns-in_ok-write_head-in-Head-clause-out : goal.returns-in_ok-write_head-in-Head-clause-out
returns-in_ok-write_head-in-Head-clause-out g c = λ bytes i.
    let h = head_stands c.in-Head.is i in
    c.in_ok-write_head-in-Head.ensures.out h.0 h.1 ∙ ap (λ (x : List ℕ). c.args.out.now.items ++ x) (sym h.2)

pub returns-in-Ok-clause-out : goal.returns-in-Ok-clause-out
returns-in-Ok-clause-out g c = λ bytes i.
    let p = part_stands c.in-Part.is i in
    (c.in-Ok.ensures.out p.0 p.1 p.2 p.3).0 ∙ ap (λ (x : List ℕ). c.args.out.now.items ++ x) (sym p.4)
