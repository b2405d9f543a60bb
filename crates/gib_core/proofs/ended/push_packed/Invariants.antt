use Rattle.std.proofs.Common.{◌≡◌, ◌≤◌, ◌-◌, ◌++◌, length, drop}
use Rattle.gib_core.specs.Ending.{packed_from}
use Rattle.gib_core.proofs.ended.push_packed.Given as goal

abbrev pub invariant-parameters : goal.invariant-parameters
invariant-parameters l = (l.i ≤ length l.function.parameters.items)
    × (l.pairs.items ++ packed_from l.function.name.0 l.i (drop l.i l.function.parameters.items) ≡ l.fn.pairs.items ++ packed_from l.function.name.0 0 l.function.parameters.items)

abbrev pub decreases-parameters : goal.decreases-parameters
decreases-parameters l = length l.function.parameters.items - l.i
