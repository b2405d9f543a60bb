use Rattle.std.proofs.Common.{◌≡◌, ◌++◌, length, map}
use Rattle.gib_code.specs.Instruction.{instruction_of}
use Rattle.gib_core.specs.Low.{moves, operands}
use Rattle.gib_lower.proofs.parts.moves.Given as goal

abbrev pub invariant-slots : goal.invariant-slots
invariant-slots l = map instruction_of l.instrs.items ++ moves l.slots_left (operands l.left) ≡ moves l.slots (operands l.scalars)

abbrev pub decreases-slots : goal.decreases-slots
decreases-slots l = length l.slots_left
