use Rattle.std.proofs.Common.{◌≡◌, ◌++◌, ◌-◌, length, drop}
use Rattle.gib_core.specs.Mentioned.{all_bound}
use Rattle.gib_core.proofs.mentions.list_variables.Given as goal

abbrev pub invariant-variables : goal.invariant-variables
invariant-variables l = l.mentions.items ++ all_bound (drop l.i l.variables) ≡ l.fn.mentions.items ++ all_bound l.variables

abbrev pub decreases-variables : goal.decreases-variables
decreases-variables l = length l.variables - l.i
