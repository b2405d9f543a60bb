use Rattle.std.proofs.Common.{arith}
use Rattle.gib_weave.specs.Applied.{event_of}
use Rattle.gib_locked.proofs.Happening.{goes_again, stops_among}
use Rattle.gib_locked.proofs.replaying.apply_times.Goals as goal

pub times-preserved : goal.times-preserved
times-preserved c = (
  omega (arith, c.times-test.true),
  λ start es h. goes_again start c.times.weave c.apply.new.self es c.times.made (event_of c.args.times.event) c.in-Ok.ensures.applied c.in-Ok.ensures.lowered c.in-Ok.ensures.sound (c.times.invariant.1 start es h),
)

pub returns-in-Err-clause-stop : goal.returns-in-Err-clause-stop
returns-in-Err-clause-stop c = λ start es h.
    stops_among start c.times.weave c.apply.new.self es c.times.made c.args.times.count (event_of c.args.times.event) c.in-Err.fault (omega (arith, c.times-test.true)) c.in-Err.ensures.applied c.in-Err.ensures.lowered (c.times.invariant.1 start es h)
