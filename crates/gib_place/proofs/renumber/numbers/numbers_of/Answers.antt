use Rattle.std.proofs.Common.{arith}
use Rattle.gib_place.proofs.Programs.{number_next}
use Rattle.gib_place.proofs.renumber.numbers.numbers_of.Goals as goal

pub parameters-preserved : goal.parameters-preserved
parameters-preserved c = (omega arith, number_next c.parameters.i c.parameters.order.items c.push.new.self.items c.parameters.invariant.1 c.in_ok-push.ensures.items)
