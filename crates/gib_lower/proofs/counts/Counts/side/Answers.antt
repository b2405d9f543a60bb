use Rattle.std.proofs.Common.{◌≡◌, ◌+◌, ℕ, length, ap, sym, subst, ◌∙◌, IfOk}
use Rattle.gib_core.specs.declared.node.BoundSide.{BoundSide}
use Rattle.gib_core.specs.Arena.{side_from, term_of}
use Rattle.gib_core.specs.Numbering.{binders, side_binders}
use Rattle.gib_core.specs.PartTypes.{types_in}
use Rattle.gib_lower.proofs.PartMoves.{variables_long}
use Rattle.gib_lower.proofs.counts.Counts.side.Goals as goal

pub returns-in-Several : goal.returns-in-Several
returns-in-Several c =
    let x = c.in-Several.side in
    let f = term_of c.args.self.now.terms in
    let long : length (side_binders (side_from f c.args.side)) ≡ c.len.result + c.of-in-Several.result =
    ap (λ (s : BoundSide). length (side_binders (side_from f s))) c.in-Several.is
    ∙ variables_long x.first.0 (types_in x.types) (binders (f x.term.0))
    ∙ (λ q. sym c.len.ensures q + sym c.of-in-Several.ensures q) in
    subst (λ (n : ℕ). IfOk c.plus-in-Several.result (λ count. count ≡ n)) (sym long) c.plus-in-Several.ensures.sum
