use Rattle.std.proofs.Common.{◌≡◌, [], length}
use Rattle.gib_check.specs.FirstFault as rule
use Rattle.gib_check.proofs.datas.check_variables.Given as goal

abbrev pub invariant-variables : goal.invariant-variables
invariant-variables l = rule.check_variables [] l.variables ≡ rule.check_variables l.names l.rest

abbrev pub decreases-variables : goal.decreases-variables
decreases-variables l = length l.rest
