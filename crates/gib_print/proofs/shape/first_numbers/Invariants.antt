use Rattle.std.proofs.Common.{◌-◌, length}
use Rattle.gib_print.specs.Shaping.{AreNumbers}
use Rattle.gib_print.proofs.shape.first_numbers.Given as goal

abbrev pub invariant-fields : goal.invariant-fields
invariant-fields l = AreNumbers l.fields l.count

abbrev pub decreases-fields : goal.decreases-fields
decreases-fields l = length l.fields - l.count
