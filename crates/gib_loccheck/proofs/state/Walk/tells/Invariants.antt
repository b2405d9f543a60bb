use Rattle.std.proofs.Common.{◌≡◌, ◌≤◌, length}
use Rattle.gib_core.specs.Rules.{one_tells}
use Rattle.gib_loccheck.specs.Views.{calls_of}
use Rattle.gib_loccheck.proofs.Telling.{first_calls}
use Rattle.gib_loccheck.proofs.state.Walk.tells.Given as goal

abbrev pub invariant-calls : goal.invariant-calls
invariant-calls l = (l.i ≤ length l.self.calls.items) × (one_tells l.ended (calls_of l.self) l.z ≡ one_tells l.ended (first_calls l.self.calls.items l.i) l.z)

abbrev pub decreases-calls : goal.decreases-calls
decreases-calls l = l.i
