use Rattle.std.proofs.Common.{length}
use Rattle.gib_infer.specs.Made.{globals_in}
use Rattle.gib_infer.proofs.Parting.{SlotsSoFar}
use Rattle.gib_infer.proofs.parts.new_slots.Given as goal

abbrev pub invariant-names : goal.invariant-names
invariant-names l = SlotsSoFar (globals_in l.typed).table.types l.fn.work l.work l.names l.left l.slots.items

abbrev pub decreases-names : goal.decreases-names
decreases-names l = length l.left
