use Rattle.std.proofs.Common.{refl, sym, ◌∙◌, arith}
use Rattle.gib_place.proofs.Cutting.{cut_found}
use Rattle.gib_place.proofs.spots.cut_at.Goals as goal

-- src/spots.rt:39:13
pub returns-then-is_variable-clause-cut : goal.returns-then-is_variable-clause-cut
returns-then-is_variable-clause-cut c = cut_found c.args.x c.args.fields.now c.fields.i _ _ c.fields.invariant (omega arith) refl (sym c.is_variable.ensures ∙ c.if-is_variable.true)
