use Rattle.std.proofs.Common.{◌≡◌, ◌≤◌, length}
use Rattle.gib_mem.specs.Memory.{Memory}
use Rattle.gib_weave.specs.Applied.{over}
use Rattle.gib_weave.specs.Weave.{pick, pick_below}
use Rattle.gib_weave.proofs.tasks.Tasks.pick.Given as goal

abbrev pub invariant-tasks : goal.invariant-tasks
invariant-tasks l = (l.rest ≤ length l.fn.self) × ((v : Memory) → pick_below l.fn.code (over v l.fn.self) l.rest ≡ pick l.fn.code (over v l.fn.self))

abbrev pub decreases-tasks : goal.decreases-tasks
decreases-tasks l = l.rest
