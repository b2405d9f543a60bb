use Rattle.std.proofs.Common.{◌≡◌, length, map}
use Rattle.gib_code.specs.Instruction.{instruction_of}
use Rattle.gib_pool.specs.Forking.{has_fork}
use Rattle.gib_pool.proofs.threads.has_fork.Given as goal

abbrev pub invariant-instructions : goal.invariant-instructions
invariant-instructions l = has_fork (map instruction_of l.rest) ≡ has_fork (map instruction_of l.fn.instructions)

abbrev pub decreases-instructions : goal.decreases-instructions
decreases-instructions l = length l.rest
