use Rattle.std.proofs.Common.{length}
use Rattle.gib_types.specs.Types.{forms_of}
use Rattle.gib_mono.proofs.Called.{Listed}
use Rattle.gib_mono.proofs.copy_texts.list.Given as goal

abbrev pub invariant-entries : goal.invariant-entries
invariant-entries l = Listed l.names (forms_of l.types) (length l.types) l.list.items l.rest l.entries

abbrev pub decreases-entries : goal.decreases-entries
decreases-entries l = length l.rest
