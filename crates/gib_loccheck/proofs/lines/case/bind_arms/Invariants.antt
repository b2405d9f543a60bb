use Rattle.std.proofs.Common.{◌≡◌, length, reverse}
use Rattle.gib_core.specs.Rules.{bind_arms}
use Rattle.gib_loccheck.specs.Views.{arms_in}
use Rattle.gib_loccheck.proofs.lines.case.bind_arms.Given as goal

abbrev pub invariant-branches : goal.invariant-branches
invariant-branches l = bind_arms l.types (arms_in l.left) (reverse l.bound.items) ≡ bind_arms l.types (arms_in l.branches) (reverse l.fn.bound.items)

abbrev pub decreases-branches : goal.decreases-branches
decreases-branches l = length l.left
