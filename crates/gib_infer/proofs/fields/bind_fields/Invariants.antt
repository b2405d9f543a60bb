use Rattle.std.proofs.Common.{length}
use Rattle.gib_infer.specs.Made.{BindsSoFar}
use Rattle.gib_infer.proofs.fields.bind_fields.Given as goal

abbrev pub invariant-names : goal.invariant-names
invariant-names l = BindsSoFar l.fn.work l.work l.names l.left l.types l.types_left l.variables.items

abbrev pub decreases-names : goal.decreases-names
decreases-names l = length l.left
