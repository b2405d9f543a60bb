use Rattle.std.proofs.Common.{◌≡◌, ◌≤◌, ◌-◌, length, drop}
use Rattle.gib_core.specs.Ending.{call_ends_some}
use Rattle.gib_lower.proofs.telling.call_tells.Given as goal

abbrev pub invariant-arguments : goal.invariant-arguments
invariant-arguments l = (l.i ≤ length l.arguments) × (call_ends_some l.ended l.function.0 0 l.arguments ≡ call_ends_some l.ended l.function.0 l.i (drop l.i l.arguments))

abbrev pub decreases-arguments : goal.decreases-arguments
decreases-arguments l = length l.arguments - l.i
