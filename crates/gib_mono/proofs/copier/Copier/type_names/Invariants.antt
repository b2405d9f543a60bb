use Rattle.std.proofs.Common.{length}
use Rattle.gib_mono.proofs.Written.{NamesWritten}
use Rattle.gib_mono.proofs.copier.Copier.type_names.Given as goal

abbrev pub invariant-types : goal.invariant-types
invariant-types l = NamesWritten l.self l.span l.names.items l.rest l.types

abbrev pub decreases-types : goal.decreases-types
decreases-types l = length l.rest
