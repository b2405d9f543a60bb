use Rattle.std.proofs.Common.{length}
use Rattle.gib_mono.proofs.Declarations.{WrittenSoFar}
use Rattle.gib_mono.proofs.declaring.copy_part_types.Given as goal

abbrev pub invariant-runs : goal.invariant-runs
invariant-runs l = WrittenSoFar l.source.exprs.words l.fn.copier l.copier l.names.items l.rest l.runs

abbrev pub decreases-runs : goal.decreases-runs
decreases-runs l = length l.rest
