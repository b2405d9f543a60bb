use Rattle.std.proofs.Common.{◌-◌, length}
use Rattle.gib_place.specs.Filled.{once_by}
use Rattle.gib_place.proofs.Onward.{Laying}
use Rattle.gib_place.proofs.laying.lay.Given as goal

abbrev pub invariant-run : goal.invariant-run
invariant-run l = Laying (once_by l.placing.once.now) l.times l.line l.time l.i l.laid

abbrev pub decreases-run : goal.decreases-run
decreases-run l = length l.line.run.items - l.i
