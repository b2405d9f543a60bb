use Rattle.std.proofs.Common.{◌≡◌, ◌++◌, length}
use Rattle.gib_types.specs.Table.{merge}
use Rattle.gib_local_print.proofs.put.merged.Given as goal

abbrev pub invariant-fields : goal.invariant-fields
invariant-fields l = l.found.items ++ merge l.left l.flat l.trees ≡ merge l.fields l.scalars l.packed

abbrev pub decreases-fields : goal.decreases-fields
decreases-fields l = length l.left
