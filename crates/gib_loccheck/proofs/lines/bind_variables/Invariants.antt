use Rattle.std.proofs.Common.{◌≡◌, length, reverse}
use Rattle.gib_core.specs.Rules.{bind_fields}
use Rattle.gib_loccheck.proofs.lines.bind_variables.Given as goal

abbrev pub invariant-variables : goal.invariant-variables
invariant-variables l = bind_fields l.left l.types_left (reverse l.bound.items) ≡ bind_fields l.variables l.types (reverse l.fn.bound.items)

abbrev pub decreases-variables : goal.decreases-variables
decreases-variables l = length l.left
