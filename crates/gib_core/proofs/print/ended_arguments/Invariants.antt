use Rattle.std.proofs.Common.{◌≡◌, ◌≤◌, ◌-◌, ◌++◌, length, drop}
use Rattle.gib_core.specs.CoreText.{ended_from}
use Rattle.gib_core.proofs.print.ended_arguments.Given as goal

abbrev pub invariant-arguments : goal.invariant-arguments
invariant-arguments l = (l.i ≤ length l.arguments) × (l.found.items ++ ended_from l.ended l.name.0 l.i (drop l.i l.arguments) ≡ ended_from l.ended l.name.0 0 l.arguments)

abbrev pub decreases-arguments : goal.decreases-arguments
decreases-arguments l = length l.arguments - l.i
