use Rattle.std.proofs.Common.{length, map}
use Rattle.gib_check.proofs.Loops.{RunsSoFar}
use Rattle.gib_check.proofs.UseTypes.{parameter_run}
use Rattle.gib_check.proofs.uses.parameter_types.Given as goal

abbrev pub invariant-parameters : goal.invariant-parameters
invariant-parameters l = RunsSoFar l.named.exprs.words l.fn.state l.state l.meaning (map parameter_run l.parameters) (map parameter_run l.rest) l.ids.items

abbrev pub decreases-parameters : goal.decreases-parameters
decreases-parameters l = length l.rest
