use Rattle.std.proofs.Common.{length}
use Rattle.gib_infer.specs.Made.{PointsSoFar}
use Rattle.gib_infer.proofs.steps.point_fields.Given as goal

abbrev pub invariant-fields : goal.invariant-fields
invariant-fields l = PointsSoFar l.fn.work l.work l.fn.bindings.items l.bindings.items l.types l.types_left l.atoms l.atoms_left l.fields.items

abbrev pub decreases-fields : goal.decreases-fields
decreases-fields l = length l.atoms_left
