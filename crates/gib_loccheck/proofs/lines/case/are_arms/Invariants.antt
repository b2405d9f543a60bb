use Rattle.std.proofs.Common.{◌≡◌, ◌+◌, ◌≤◌, length}
use Rattle.gib_core.specs.Inferring.{constructors_of, numbers_from}
use Rattle.gib_core.specs.Rules.{are_arms}
use Rattle.gib_loccheck.specs.Views.{arms_in}
use Rattle.gib_loccheck.proofs.lines.case.are_arms.Given as goal

abbrev pub invariant-branches : goal.invariant-branches
invariant-branches l = (are_arms l.types (numbers_from l.next l.more) (arms_in l.left) ≡ are_arms l.types (constructors_of l.types l.fn.ty.0) (arms_in l.branches)) × (l.next + l.more ≤ 200)

abbrev pub decreases-branches : goal.decreases-branches
decreases-branches l = length l.left
