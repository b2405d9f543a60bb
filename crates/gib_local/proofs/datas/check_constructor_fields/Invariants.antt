use Rattle.std.proofs.Common.{◌≡◌, [], length, map}
use Rattle.gib_syntax.specs.Plain.{generic_constructor}
use Rattle.gib_syntax.specs.Parts.{constructor_tree}
use Rattle.gib_check.specs.FirstFault as rule
use Rattle.gib_local.specs.Knowing.{datas_of}
use Rattle.gib_local.proofs.datas.check_constructor_fields.Given as goal

abbrev pub invariant-constructors : goal.invariant-constructors
invariant-constructors l = rule.check_constructor_fields (datas_of l.known) [] (map generic_constructor (map constructor_tree l.constructors)) ≡ rule.check_constructor_fields (datas_of l.known) [] (map generic_constructor (map constructor_tree l.rest))

abbrev pub decreases-constructors : goal.decreases-constructors
decreases-constructors l = length l.rest
