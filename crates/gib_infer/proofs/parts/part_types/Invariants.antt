use Rattle.std.proofs.Common.{◌≡◌, ◌++◌, length}
use Rattle.gib_core.specs.PartTypes.{types_in}
use Rattle.gib_infer.proofs.parts.part_types.Given as goal

abbrev pub invariant-types : goal.invariant-types
invariant-types l = types_in l.parts ++ l.left ≡ l.types

abbrev pub decreases-types : goal.decreases-types
decreases-types l = length l.left
