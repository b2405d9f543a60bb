use Rattle.std.proofs.Common.{◌≡◌, ◌++◌, length, map}
use Rattle.gib_code.specs.Instruction.{instruction_of}
use Rattle.gib_core.specs.Low.{begin_all}
use Rattle.gib_lower.proofs.parts.begins.Given as goal

abbrev pub invariant-slots : goal.invariant-slots
invariant-slots l = map instruction_of l.instrs.items ++ begin_all l.slots ≡ begin_all l.fn.slots

abbrev pub decreases-slots : goal.decreases-slots
decreases-slots l = length l.slots
