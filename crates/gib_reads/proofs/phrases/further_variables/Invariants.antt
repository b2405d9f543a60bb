use Rattle.std.proofs.Common.{length}
use Rattle.gib_syntax.specs.Spelling.{places_of}
use Rattle.gib_reads.specs.Readers.{is_variable, var_at, many}
use Rattle.gib_reads.specs.Answers.{with_front}
use Rattle.gib_reads.proofs.SoFar.{SoFar}
use Rattle.gib_reads.proofs.phrases.further_variables.Given as goal

abbrev pub invariant-variables : goal.invariant-variables
invariant-variables l = SoFar (with_front l.fn.first.items (many is_variable (var_at (places_of l.spans)) l.tokens)) is_variable
    (var_at (places_of l.spans)) l.rest l.found.items

abbrev pub decreases-variables : goal.decreases-variables
decreases-variables l = length l.rest
