use Rattle.std.proofs.Common.{◌≡◌, [], length, map}
use Rattle.gib_syntax.specs.Plain.{generic_parameter}
use Rattle.gib_check.specs.FirstFault as rule
use Rattle.gib_local.specs.Knowing.{datas_of}
use Rattle.gib_local.proofs.heads.check_parameters.Given as goal

abbrev pub invariant-parameters : goal.invariant-parameters
invariant-parameters l = rule.check_parameters (datas_of l.known) [] [] (map generic_parameter l.parameters) ≡ rule.check_parameters (datas_of l.known) [] l.names (map generic_parameter l.rest)

abbrev pub decreases-parameters : goal.decreases-parameters
decreases-parameters l = length l.rest
