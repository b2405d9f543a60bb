use Rattle.std.proofs.Common.{arith}
use Rattle.gib_print.proofs.ShapeLemmas.{more_numbers}
use Rattle.gib_print.proofs.shape.first_numbers.Goals as goal

pub fields-init : goal.fields-init
fields-init c = record { within = omega arith; each = λ i lt. absurd (omega (arith, lt)) }

pub fields-preserved : goal.fields-preserved
fields-preserved c = more_numbers c.fields.invariant c.fields-test.true c.in-Whole.is
