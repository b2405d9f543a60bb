use Rattle.std.proofs.Common.{◌≡◌, ◌++◌, ◌+◌, ◌-◌, length, drop}
use Rattle.gib_core.specs.Tree.{variables_from}
use Rattle.gib_core.specs.PartTypes.{types_in}
use Rattle.gib_core.specs.Mentioned.{all_bound}
use Rattle.gib_core.proofs.mentions.list_variables_from.Given as goal

abbrev pub invariant-variables : goal.invariant-variables
invariant-variables l = l.mentions.items ++ all_bound (variables_from (l.first.0 + l.i) (drop l.i (types_in l.types))) ≡ l.fn.mentions.items ++ all_bound (variables_from l.first.0 (types_in l.types))

abbrev pub decreases-variables : goal.decreases-variables
decreases-variables l = length (types_in l.types) - l.i
