use Rattle.std.proofs.Common.{length}
use Rattle.gib_mono.specs.Sources.{globals_in}
use Rattle.gib_mono.proofs.Seeking.{UsesSoFar}
use Rattle.gib_mono.proofs.search.ask_uses.Given as goal

abbrev pub invariant-uses : goal.invariant-uses
invariant-uses l = UsesSoFar (globals_in l.source) l.fn.search l.search l.fn.uses l.uses

abbrev pub decreases-uses : goal.decreases-uses
decreases-uses l = length l.uses
