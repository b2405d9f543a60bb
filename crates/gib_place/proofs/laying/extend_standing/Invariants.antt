use Rattle.std.proofs.Common.{◌≡◌, ◌++◌, ◌-◌, map, length, drop}
use Rattle.gib_place.specs.declared.field.Field.{Field}
use Rattle.gib_place.proofs.laying.extend_standing.Given as goal

abbrev pub invariant-fields : goal.invariant-fields
invariant-fields l = l.standing.items ++ map (λ (f : Field). f.variable) (drop l.i l.fields) ≡ l.fn.standing.items ++ map (λ (f : Field). f.variable) l.fields

abbrev pub decreases-fields : goal.decreases-fields
decreases-fields l = length l.fields - l.i
