use Rattle.std.proofs.Common.{length}
use Rattle.gib_mono.specs.Sources.{globals_in}
use Rattle.gib_mono.proofs.Finding.{fields_asks}
use Rattle.gib_mono.proofs.Seeking.{AskedSoFar}
use Rattle.gib_mono.proofs.find.ask_fields.Given as goal

abbrev pub invariant-constructors : goal.invariant-constructors
invariant-constructors l = AskedSoFar (globals_in l.source) l.fn.search l.search (fields_asks l.source l.constructors) (fields_asks l.source l.rest)

abbrev pub decreases-constructors : goal.decreases-constructors
decreases-constructors l = length l.rest
