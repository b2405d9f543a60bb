use Rattle.std.proofs.Common.{◌≡◌, ◌≤◌, ◌+◌, ◌*◌, length}
use Rattle.gib_core.specs.Low.{further_fields}
use Rattle.gib_lower.proofs.fields.add_further.Given as goal

abbrev pub invariant-fields : goal.invariant-fields
invariant-fields l = record {
  small : l.place + 8 * length l.types_left ≤ 65;
  added : further_fields l.tree l.place l.types_left l.left l.fields ≡ further_fields l.tree 1 l.first.types.now l.first.variables.now l.fn.fields;
}

abbrev pub decreases-fields : goal.decreases-fields
decreases-fields l = length l.types_left
