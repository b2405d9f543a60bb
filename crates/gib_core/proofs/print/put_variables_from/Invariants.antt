use Rattle.std.proofs.Common.{◌≡◌, ◌≤◌, ◌+◌, length, drop}
use Rattle.gib_core.specs.Tree.{variables_from}
use Rattle.gib_core.specs.PartTypes.{types_in}
use Rattle.gib_core.specs.CoreText.{spell_variables}
use Rattle.gib_core.proofs.print.put_variables_from.Given as goal

abbrev pub invariant-variables : goal.invariant-variables
invariant-variables l = (l.i ≤ length (types_in l.fn.types)) × (l.out ≡ spell_variables (variables_from (l.first.0 + l.i) (drop l.i (types_in l.fn.types))) l.fn.out)

abbrev pub decreases-variables : goal.decreases-variables
decreases-variables l = l.i
