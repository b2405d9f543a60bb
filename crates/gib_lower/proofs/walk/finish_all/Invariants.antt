use Rattle.std.proofs.Common.{◌≡◌, ◌≤◌, ◌++◌, ◌-◌, length, drop}
use Rattle.gib_core.specs.Low.{done_all}
use Rattle.gib_lower.proofs.walk.finish_all.Given as goal

abbrev pub invariant-slots : goal.invariant-slots
invariant-slots l = (l.i ≤ length l.slots) × (done_all (drop l.i l.slots) ++ l.out ≡ done_all l.slots ++ l.fn.out)

abbrev pub decreases-slots : goal.decreases-slots
decreases-slots l = length l.slots - l.i
