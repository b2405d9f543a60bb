use Rattle.std.proofs.Common.{◌≡◌, ◌++◌, length}
use Rattle.gib_core.specs.PartTypes.{types_in}
use Rattle.gib_core.specs.Tree.{variables_from}
use Rattle.gib_loccheck.proofs.lines.several.variables_of.Given as goal

abbrev pub invariant-variables : goal.invariant-variables
invariant-variables l = l.variables.items ++ variables_from l.number l.left ≡ variables_from l.parts.first.0 (types_in l.parts.types)

abbrev pub decreases-variables : goal.decreases-variables
decreases-variables l = length l.left
