use Rattle.std.proofs.Common.{◌≤◌, ◌-◌, ◌++◌, List, replicate}
use Rattle.gib_weave.specs.Applied.{event_of}
use Rattle.gib_weave.specs.Weave.{Event}
use Rattle.gib_weave.specs.Woven.{WeaveParts}
use Rattle.gib_locked.specs.Replays.{Goes}
use Rattle.gib_locked.proofs.replaying.apply_times.Given as goal

abbrev pub invariant-times : goal.invariant-times
invariant-times l = (l.made ≤ l.fn.times.count) × ((start : WeaveParts) (es : List Event) → Goes start es l.fn.weave → Goes start (es ++ replicate l.made (event_of l.fn.times.event)) l.weave)

abbrev pub decreases-times : goal.decreases-times
decreases-times l = l.fn.times.count - l.made
