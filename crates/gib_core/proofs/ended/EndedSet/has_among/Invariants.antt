use Rattle.std.proofs.Common.{◌≡◌, ◌≤◌, ◌-◌, length, drop}
use Rattle.gib_core.specs.Ending.{call_ends}
use Rattle.gib_core.proofs.ended.EndedSet.has_among.Given as goal

abbrev pub invariant-arguments : goal.invariant-arguments
invariant-arguments l = (l.i ≤ length l.arguments) × (call_ends l.self l.function.0 0 l.arguments l.z ≡ call_ends l.self l.function.0 l.i (drop l.i l.arguments) l.z)

abbrev pub decreases-arguments : goal.decreases-arguments
decreases-arguments l = length l.arguments - l.i
