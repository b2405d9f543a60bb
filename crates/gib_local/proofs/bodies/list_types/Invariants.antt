use Rattle.std.proofs.Common.{◌≡◌, ◌++◌, length}
use Rattle.gib_local.specs.Building.{types_of}
use Rattle.gib_local.specs.Builds.{program_in}
use Rattle.gib_local.proofs.bodies.list_types.Given as goal

abbrev pub invariant-parameters : goal.invariant-parameters
invariant-parameters l = l.types.items ++ types_of (program_in l.source).table.types l.rest ≡ types_of (program_in l.source).table.types l.parameters

abbrev pub decreases-parameters : goal.decreases-parameters
decreases-parameters l = length l.rest
