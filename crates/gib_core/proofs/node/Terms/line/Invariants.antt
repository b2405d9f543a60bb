use Rattle.gib_core.proofs.Lining.{LineSoFar}
use Rattle.gib_core.proofs.node.Terms.line.Given as goal

abbrev pub invariant-bindings : goal.invariant-bindings
invariant-bindings l = LineSoFar l.self l.fn.id.0 l.bindings.items l.last.0 l.node

abbrev pub decreases-bindings : goal.decreases-bindings
decreases-bindings l = l.last.0
