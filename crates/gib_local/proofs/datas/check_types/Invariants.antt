use Rattle.std.proofs.Common.{◌≡◌, [], length, map}
use Rattle.gib_syntax.specs.Plain.{written_of}
use Rattle.gib_check.specs.FirstFault as rule
use Rattle.gib_local.specs.Knowing.{datas_of}
use Rattle.gib_local.proofs.datas.check_types.Given as goal

abbrev pub invariant-fields : goal.invariant-fields
invariant-fields l = rule.check_types (datas_of l.known) [] (map written_of l.fields) ≡ rule.check_types (datas_of l.known) [] (map written_of l.rest)

abbrev pub decreases-fields : goal.decreases-fields
decreases-fields l = length l.rest
