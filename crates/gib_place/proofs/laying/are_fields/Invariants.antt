use Rattle.std.proofs.Common.{◌≡◌, length}
use Rattle.gib_place.specs.Placing.{are_fields}
use Rattle.gib_place.specs.Filled.{once_by}
use Rattle.gib_place.proofs.laying.are_fields.Given as goal

abbrev pub invariant-fields : goal.invariant-fields
invariant-fields l = are_fields (once_by l.once) l.fields l.packed ≡ are_fields (once_by l.once) l.fields_left l.left

abbrev pub decreases-fields : goal.decreases-fields
decreases-fields l = length l.fields_left
