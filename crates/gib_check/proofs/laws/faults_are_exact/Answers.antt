use Rattle.std.proofs.Common.{ap}
use Rattle.gib_check.specs.FirstFault.{check_program, fault_in}
use Rattle.gib_check.proofs.Programs.{program_typed, typed_program, no_fault}
use Rattle.gib_check.proofs.laws.faults_are_exact.Goals as goal

pub returns-clause-typed : goal.returns-clause-typed
returns-clause-typed c = λ p e. program_typed p (no_fault (check_program p) e)

pub returns-clause-none : goal.returns-clause-none
returns-clause-none c = λ p h. ap fault_in (typed_program p h)
