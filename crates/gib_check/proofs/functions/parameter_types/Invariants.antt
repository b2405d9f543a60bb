use Rattle.std.proofs.Common.{◌≡◌, ◌++◌, length, map}
use Rattle.gib_check.specs.Functions.{parameter_type}
use Rattle.gib_check.proofs.functions.parameter_types.Given as goal

abbrev pub invariant-parameters : goal.invariant-parameters
invariant-parameters l = l.found.items ++ map (parameter_type l.types) l.rest ≡ map (parameter_type l.types) l.parameters

abbrev pub decreases-parameters : goal.decreases-parameters
decreases-parameters l = length l.rest
