use Rattle.std.proofs.Common.{length, map}
use Rattle.gib_local.specs.Bodied.{name_of}
use Rattle.gib_local.proofs.Binding.{EntersSoFar}
use Rattle.gib_local.proofs.builder.Builder.bind_parameters.Given as goal

abbrev pub invariant-parameters : goal.invariant-parameters
invariant-parameters l = EntersSoFar l.fn.self l.self (map name_of l.parameters) (map name_of l.rest)

abbrev pub decreases-parameters : goal.decreases-parameters
decreases-parameters l = length l.rest
