use Rattle.std.proofs.Common.{◌≡◌, ◌≤◌, ◌+◌, ◌*◌, ◌++◌, length, map}
use Rattle.gib_code.specs.Instruction.{instruction_of}
use Rattle.gib_core.specs.Low.{scalar_reads}
use Rattle.gib_lower.proofs.opening.read_scalars.Given as goal

abbrev pub invariant-types : goal.invariant-types
invariant-types l = record {
  small : l.place + 8 * length l.types ≤ 255;
  made : map instruction_of l.instrs.items ++ scalar_reads l.tree l.place l.types l.variables ≡ map instruction_of l.fn.instrs.items ++ scalar_reads l.tree l.fn.first l.fn.types l.fn.variables;
}

abbrev pub decreases-types : goal.decreases-types
decreases-types l = length l.types
