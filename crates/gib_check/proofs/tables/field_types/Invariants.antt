use Rattle.std.proofs.Common.{◌≡◌, ◌++◌, length, map}
use Rattle.gib_syntax.specs.Declarations.{type_of_name}
use Rattle.gib_check.proofs.tables.field_types.Given as goal

abbrev pub invariant-fields : goal.invariant-fields
invariant-fields l = l.field_types.items ++ map (type_of_name l.types) l.rest ≡ map (type_of_name l.types) l.fields

abbrev pub decreases-fields : goal.decreases-fields
decreases-fields l = length l.rest
