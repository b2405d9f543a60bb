use Rattle.std.proofs.Common.{◌-◌}
use Rattle.gib_infer.proofs.Programs.{FunctionsSoFar}
use Rattle.gib_infer.proofs.bodies.make_functions.Given as goal

abbrev pub invariant-functions : goal.invariant-functions
invariant-functions l = FunctionsSoFar l.typed l.fn.work l.work l.functions.items l.next

abbrev pub decreases-functions : goal.decreases-functions
decreases-functions l = l.count - l.next
