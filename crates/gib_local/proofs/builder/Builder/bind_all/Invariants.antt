use Rattle.std.proofs.Common.{length}
use Rattle.gib_local.proofs.Binding.{BindsSoFar}
use Rattle.gib_local.proofs.builder.Builder.bind_all.Given as goal

abbrev pub invariant-names : goal.invariant-names
invariant-names l = BindsSoFar l.fn.self l.self l.names l.rest l.variables.items

abbrev pub decreases-names : goal.decreases-names
decreases-names l = length l.rest
