use Rattle.std.proofs.Common.{length}
use Rattle.gib_core.proofs.Fronting.{Fronts}
use Rattle.gib_core.proofs.node.Terms.put_before.Given as goal

abbrev pub invariant-bindings : goal.invariant-bindings
invariant-bindings l = Fronts l.fn.self l.self l.fn.bindings.items l.bindings.items l.fn.rest l.term

abbrev pub decreases-bindings : goal.decreases-bindings
decreases-bindings l = length l.bindings.items
