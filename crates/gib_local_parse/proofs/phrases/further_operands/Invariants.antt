use Rattle.std.proofs.Common.{length}
use Rattle.gib_syntax.specs.Spelling.{places_of}
use Rattle.gib_reads.specs.Readers.{many}
use Rattle.gib_local_parse.specs.Grammar.{starts_operand, operand_at}
use Rattle.gib_reads.specs.Answers.{with_front}
use Rattle.gib_reads.proofs.SoFar.{SoFar}
use Rattle.gib_local_parse.proofs.phrases.further_operands.Given as goal

abbrev pub invariant-operands : goal.invariant-operands
invariant-operands l = SoFar (with_front l.fn.first.items (many starts_operand (operand_at (places_of l.spans)) l.tokens)) starts_operand (operand_at (places_of l.spans)) l.rest l.found.items

abbrev pub decreases-operands : goal.decreases-operands
decreases-operands l = length l.rest
