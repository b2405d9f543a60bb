use Rattle.std.proofs.Common.{◌≡◌, ◌++◌, length, map}
use Rattle.gib_types.specs.Table.{row_of}
use Rattle.gib_syntax.specs.Parts.{data_tree}
use Rattle.gib_syntax.specs.Declarations.{rows_from}
use Rattle.gib_check.proofs.tables.list_rows.Given as goal

abbrev pub invariant-datas : goal.invariant-datas
invariant-datas l = map row_of l.rows.items ++ rows_from l.fn.types l.owner (map data_tree l.rest) ≡ rows_from l.fn.types 0 (map data_tree l.fn.datas)

abbrev pub decreases-datas : goal.decreases-datas
decreases-datas l = length l.rest
