use Rattle.std.proofs.Common.{◌≡◌, ◌++◌, length}
use Rattle.gib_types.specs.Table.{at_fields}
use Rattle.gib_types.proofs.fields.items_at.Given as goal

abbrev pub invariant-items : goal.invariant-items
invariant-items g l = l.selected.items ++ at_fields l.scalars l.rest_types l.rest ≡ at_fields l.scalars l.types l.items

abbrev pub decreases-items : goal.decreases-items
decreases-items g l = length l.rest
