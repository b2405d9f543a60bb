use Rattle.std.proofs.Common.{◌≡◌, ◌++◌, length}
use Rattle.gib_syntax.specs.Meaning.{names_of}
use Rattle.gib_infer.proofs.bodies.names_of.Given as goal

abbrev pub invariant-parameters : goal.invariant-parameters
invariant-parameters l = l.names.items ++ names_of l.left ≡ names_of l.parameters

abbrev pub decreases-parameters : goal.decreases-parameters
decreases-parameters l = length l.left
