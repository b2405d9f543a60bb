use Rattle.std.proofs.Common.{◌≡◌, length, map}
use Rattle.gib_syntax.specs.Plain.{generic_data}
use Rattle.gib_syntax.specs.Parts.{data_tree}
use Rattle.gib_check.specs.FirstFault as rule
use Rattle.gib_local.specs.Knowing.{datas_of}
use Rattle.gib_local.proofs.datas.check_fields.Given as goal

abbrev pub invariant-datas : goal.invariant-datas
invariant-datas l = rule.check_fields (datas_of l.known) (map generic_data (map data_tree l.datas)) ≡ rule.check_fields (datas_of l.known) (map generic_data (map data_tree l.rest))

abbrev pub decreases-datas : goal.decreases-datas
decreases-datas l = length l.rest
