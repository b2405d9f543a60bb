use Rattle.std.proofs.Common.{◌≡◌, ◌≤◌, ◌++◌, ◌-◌, length, map, drop}
use Rattle.gib_code.specs.Instruction.{instruction_of}
use Rattle.gib_core.specs.Low.{takes_parts}
use Rattle.gib_lower.proofs.parts.takes_parts.Given as goal

abbrev pub invariant-slots : goal.invariant-slots
invariant-slots l = (l.i ≤ length l.slots) × (map instruction_of l.instrs.items ++ takes_parts l.i (drop l.i l.slots) ≡ takes_parts 0 l.slots)

abbrev pub decreases-slots : goal.decreases-slots
decreases-slots l = length l.slots - l.i
