use Rattle.std.proofs.Common.{◌≡◌, ◌≤◌, ◌++◌, length, reverse, map, drop}
use Rattle.gib_value.specs.declared.write.Due.TheVariants.{Field}
use Rattle.gib_value.proofs.write.push_fields.Given as goal

abbrev pub invariant-fields : goal.invariant-fields
invariant-fields l = (l.i ≤ length l.fields) × (reverse l.due.items ≡ map Field (drop l.i l.fields) ++ reverse l.fn.due.items)

abbrev pub decreases-fields : goal.decreases-fields
decreases-fields l = l.i
