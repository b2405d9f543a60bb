use Rattle.std.proofs.Common.{◌-◌, length}
use Rattle.gib_place.proofs.Timing.{Timing}
use Rattle.gib_place.proofs.times.bind_run.Given as goal

abbrev pub invariant-run : goal.invariant-run
invariant-run l = Timing l.start l.run l.i l.times

abbrev pub decreases-run : goal.decreases-run
decreases-run l = length l.run - l.i
