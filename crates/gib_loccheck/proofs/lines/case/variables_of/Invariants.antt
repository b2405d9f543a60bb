use Rattle.std.proofs.Common.{◌≡◌, ◌++◌, length}
use Rattle.gib_core.specs.Rules.{arm_variables}
use Rattle.gib_loccheck.specs.Views.{arms_in}
use Rattle.gib_loccheck.proofs.lines.case.variables_of.Given as goal

abbrev pub invariant-branches : goal.invariant-branches
invariant-branches l = l.variables.items ++ arm_variables (arms_in l.left) ≡ arm_variables (arms_in l.branches)

abbrev pub decreases-branches : goal.decreases-branches
decreases-branches l = length l.left
