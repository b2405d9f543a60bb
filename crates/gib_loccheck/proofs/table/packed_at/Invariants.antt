use Rattle.std.proofs.Common.{◌≡◌, length, get_or}
use Rattle.gib_types.specs.Table.{tree_types}
use Rattle.gib_types.specs.declared.table.Ty.TheVariants.{Whole}
use Rattle.gib_loccheck.proofs.table.packed_at.Given as goal

abbrev pub invariant-types : goal.invariant-types
invariant-types l = get_or (tree_types l.left) l.before Whole ≡ get_or (tree_types l.types) l.index Whole

abbrev pub decreases-types : goal.decreases-types
decreases-types l = length l.left
