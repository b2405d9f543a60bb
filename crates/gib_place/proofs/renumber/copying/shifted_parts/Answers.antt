use Rattle.std.proofs.Common.{◌-◌, refl, arith}
use Rattle.gib_place.proofs.Shifted.{parts_shifted_next}
use Rattle.gib_place.proofs.renumber.copying.shifted_parts.Goals as goal

pub parts-preserved : goal.parts-preserved
parts-preserved c =
    (omega arith, parts_shifted_next c.args.base c.parts.reversed.items c.push.new.self.items c.args.parts.now c.in_ok-part.part _ _ (c.parts.i - 1) c.parts.i (omega arith) c.parts.invariant.0 refl c.in_ok-push.ensures.items c.parts.invariant.1 c.in_ok-part.ensures)
