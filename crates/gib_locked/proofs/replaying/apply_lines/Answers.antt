use Rattle.std.proofs.Common.{◌≡◌, ◌+◌, List, rules, refl, arith, subst}
use lib.ListN.{get_or}
use Rattle.gib_weave.specs.Applied.{event_of}
use Rattle.gib_weave.specs.Weave.{Event}
use Rattle.gib_weave.specs.Woven.{WeaveParts}
use Rattle.gib_locked.specs.Replays.{Goes, StopsAmong}
use Rattle.gib_weave.specs.declared.task.WeaveFault.TheVariants as fault
use Rattle.gib_locked.proofs.Happening.{leads_none, leads_next, stops_at}
use Rattle.gib_locked.proofs.replaying.apply_lines.Goals as goal

pub lines-init : goal.lines-init
lines-init c = (omega arith, leads_none c.args.weave.now c.args.weave.now refl)

pub lines-preserved : goal.lines-preserved
lines-preserved c =
    let is : c.index.result.now ≡ get_or c.args.lines.now.items c.lines.at c.index.result.now = search rules in (
      omega (arith, c.lines-test.true, c.len.ensures),
      leads_next c.args.weave.now c.lines.weave c.apply_times.new.weave c.args.lines.now.items c.lines.at c.times_of.result.count c.index.result.now c.times_of.result.event (omega (arith, c.lines-test.true, c.len.ensures)) is c.times_of.ensures c.lines.invariant.1 c.in-Ok.ensures.all,
    )

pub returns-in-Err-NotNow : goal.returns-in-Err-NotNow
returns-in-Err-NotNow c =
    let is : c.index.result.now ≡ get_or c.args.lines.now.items c.lines.at c.index.result.now = search rules in
    stops_at c.args.weave.now c.lines.weave c.apply_times.new.weave c.args.lines.now.items c.lines.at c.times_of.result.count c.index.result.now c.times_of.result.event fault.NotNow (omega (arith, c.lines-test.true, c.len.ensures)) is c.times_of.ensures c.lines.invariant.1
    (subst (λ f. (st : WeaveParts) (es : List Event) → Goes st es c.lines.weave → StopsAmong st es (event_of c.times_of.result.event) c.times_of.result.count c.apply_times.new.weave f) c.in-Err-NotNow.field-0-is c.in-Err-NotNow.ensures.stop)

pub returns-in-Err-Full : goal.returns-in-Err-Full
returns-in-Err-Full c =
    let is : c.index.result.now ≡ get_or c.args.lines.now.items c.lines.at c.index.result.now = search rules in (
      c.lines.at + 3,
      stops_at c.args.weave.now c.lines.weave c.apply_times.new.weave c.args.lines.now.items c.lines.at c.times_of.result.count c.index.result.now c.times_of.result.event fault.Full (omega (arith, c.lines-test.true, c.len.ensures)) is c.times_of.ensures c.lines.invariant.1
          (subst (λ f. (st : WeaveParts) (es : List Event) → Goes st es c.lines.weave → StopsAmong st es (event_of c.times_of.result.event) c.times_of.result.count c.apply_times.new.weave f) c.in-Err-Full.field-0-is c.in-Err-Full.ensures.stop),
    )
