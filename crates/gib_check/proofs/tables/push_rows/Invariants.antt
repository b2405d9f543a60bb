use Rattle.std.proofs.Common.{◌≡◌, ◌++◌, length, map}
use Rattle.gib_types.specs.Table.{row_of}
use Rattle.gib_syntax.specs.Parts.{constructor_tree}
use Rattle.gib_syntax.specs.Declarations.{row_in}
use Rattle.gib_check.proofs.tables.push_rows.Given as goal

abbrev pub invariant-constructors : goal.invariant-constructors
invariant-constructors l = map row_of l.rows.items ++ map (row_in l.types l.owner) (map constructor_tree l.rest) ≡ map row_of l.fn.rows.items ++ map (row_in l.types l.owner) (map constructor_tree l.constructors)

abbrev pub decreases-constructors : goal.decreases-constructors
decreases-constructors l = length l.rest
