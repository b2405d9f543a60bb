use Rattle.std.proofs.Common.{length}
use Rattle.gib_mono.proofs.Written.{VariablesWritten}
use Rattle.gib_mono.proofs.copier.Copier.variables.Given as goal

abbrev pub invariant-names : goal.invariant-names
invariant-names l = VariablesWritten l.self l.variables.items l.rest l.left l.names l.types

abbrev pub decreases-names : goal.decreases-names
decreases-names l = length l.rest
