use Rattle.std.proofs.Common.{◌≡◌, ◌++◌, length, map}
use Rattle.gib_code.specs.Instruction.{instruction_of}
use Rattle.gib_core.specs.Low.{got_from}
use Rattle.gib_lower.proofs.told.got_from.Given as goal

abbrev pub invariant-arguments : goal.invariant-arguments
invariant-arguments l = map instruction_of l.instrs.items ++ got_from l.ended l.function.0 l.place l.left ≡ got_from l.ended l.function.0 0 l.arguments

abbrev pub decreases-arguments : goal.decreases-arguments
decreases-arguments l = length l.left
