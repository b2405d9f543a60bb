use Rattle.std.proofs.Common.{◌≡◌, [], length, reverse}
use Rattle.gib_core.specs.Rules.{any_bound}
use Rattle.gib_loccheck.specs.Views.{before_of}
use Rattle.gib_loccheck.proofs.atoms.any_bound.Given as goal

abbrev pub invariant-variables : goal.invariant-variables
invariant-variables l = any_bound l.left (reverse l.seen.items) (before_of l.walk).bound ≡ any_bound l.variables [] (before_of l.walk).bound

abbrev pub decreases-variables : goal.decreases-variables
decreases-variables l = length l.left
