use Rattle.std.proofs.Common.{◌≡◌, ◌++◌, length, false}
use Rattle.gib_syntax.specs.Meaning.{at_fields}
use Rattle.gib_infer.proofs.fields.packed_types.Given as goal

abbrev pub invariant-types : goal.invariant-types
invariant-types l = l.packed.items ++ at_fields false l.left l.left ≡ at_fields false l.types l.types

abbrev pub decreases-types : goal.decreases-types
decreases-types l = length l.left
