use Rattle.std.proofs.Common.{◌≡◌, length, map, max}
use Rattle.gib_code.specs.Instruction.{instruction_of}
use Rattle.gib_machine.specs.State.{nesting_from}
use Rattle.gib_machine.proofs.starting.nesting.Given as goal

abbrev pub invariant-instructions : goal.invariant-instructions
invariant-instructions l = max l.most (nesting_from l.current (map instruction_of l.rest)) ≡ nesting_from 0 (map instruction_of l.fn.instructions)

abbrev pub decreases-instructions : goal.decreases-instructions
decreases-instructions l = length l.rest
