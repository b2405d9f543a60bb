use Rattle.std.proofs.Common.{◌≡◌, ◌++◌, length, map}
use Rattle.gib_syntax.specs.GenericParts.{parameter_in}
use Rattle.gib_mono.specs.Bare.{bare_parameter}
use Rattle.gib_mono.proofs.plain.bare_parameters.Given as goal

abbrev pub invariant-parameters : goal.invariant-parameters
invariant-parameters l = l.made.items ++ map bare_parameter (map (parameter_in l.exprs.words) l.rest) ≡ map bare_parameter (map (parameter_in l.exprs.words) l.parameters)

abbrev pub decreases-parameters : goal.decreases-parameters
decreases-parameters l = length l.rest
