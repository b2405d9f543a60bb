use Rattle.std.proofs.Common.{◌≡◌, ◌≤◌, ◌-◌}
use Rattle.gib_core.specs.Inferring.{numbers_from}
use Rattle.gib_place.proofs.renumber.numbers.numbers_of.Given as goal

abbrev pub invariant-parameters : goal.invariant-parameters
invariant-parameters l = (l.i ≤ l.count) × (l.order.items ≡ numbers_from 0 l.i)

abbrev pub decreases-parameters : goal.decreases-parameters
decreases-parameters l = l.count - l.i
