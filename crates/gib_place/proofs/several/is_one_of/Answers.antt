use Rattle.std.proofs.Common.{nat_lt, sym, ap, ◌∙◌, arith, ⊎_elim}
use Rattle.std.proofs.str.Laws.{order}
use Rattle.gib_core.specs.PartTypes.{types_in}
use Rattle.gib_place.proofs.Neighbours.{among_behind, among_before}
use Rattle.gib_place.proofs.several.is_one_of.Goals as goal

pub returns-in-Some : goal.returns-in-Some
returns-in-Some c =
    ap (nat_lt c.in-Some.distance) c.len.ensures ∙ sym (among_behind (types_in c.args.types) c.args.first.0 c.in-Some.distance c.args.y.0 (omega (arith, c.in-Some.ensures.0, c.in-Some.ensures.1)))

pub returns-in-None : goal.returns-in-None
returns-in-None c = sym (among_before (types_in c.args.types) c.args.first.0 c.args.y.0 (⊎_elim (λ less. less) (λ more. absurd (c.in-None.ensures more)) (order c.args.y.0 c.args.first.0)))
