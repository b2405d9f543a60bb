use Rattle.std.proofs.Common.{◌≡◌, ◌≤◌, ◌-◌, length, map}
use Rattle.gib_types.specs.Table.{numbers_from}
use Rattle.gib_local_parse.specs.Texts.{spell_list, spell_data}
use Rattle.gib_local_print.specs.LocatedText.{data_of}
use Rattle.gib_local_print.proofs.put_declarations.put_datas.Given as goal

abbrev pub invariant-types : goal.invariant-types
invariant-types l = (l.i ≤ length l.types.types) × (l.out ≡ spell_list spell_data (map (data_of l.types) (numbers_from l.i (length l.types.types - l.i))) l.fn.out)

abbrev pub decreases-types : goal.decreases-types
decreases-types l = l.i
