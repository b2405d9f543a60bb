use Rattle.std.proofs.Common.{◌≤◌, ◌-◌, length, take}
use Rattle.gib_locked.specs.Run.{Leads}
use Rattle.gib_locked.proofs.replaying.apply_lines.Given as goal

abbrev pub invariant-lines : goal.invariant-lines
invariant-lines l = (l.at ≤ length l.lines.items) × Leads l.fn.weave (take l.at l.lines.items) l.weave

abbrev pub decreases-lines : goal.decreases-lines
decreases-lines l = length l.lines.items - l.at
