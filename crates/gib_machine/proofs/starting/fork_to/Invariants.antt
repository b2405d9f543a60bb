use Rattle.std.proofs.Common.{◌≡◌, length, map}
use Rattle.gib_code.specs.Instruction.{instruction_of}
use Rattle.gib_machine.specs.Starting.{fork_to}
use Rattle.gib_machine.proofs.starting.fork_to.Given as goal

abbrev pub invariant-instructions : goal.invariant-instructions
invariant-instructions l = fork_to (map instruction_of l.rest) l.label ≡ fork_to l.fn.code.instructions l.label

abbrev pub decreases-instructions : goal.decreases-instructions
decreases-instructions l = length l.rest
