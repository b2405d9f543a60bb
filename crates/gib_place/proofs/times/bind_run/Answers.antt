use Rattle.std.proofs.Common.{refl, arith}
use Rattle.gib_place.proofs.Timing.{timing_next}
use Rattle.gib_place.proofs.times.bind_run.Goals as goal

pub run-preserved : goal.run-preserved
run-preserved c = timing_next _ c.args.run.now c.run.i c.run.times c.bind.new.times _ _ c.run.invariant (omega arith) refl c.in_ok-bind.ensures
