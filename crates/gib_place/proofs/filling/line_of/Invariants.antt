use Rattle.std.proofs.Common.{◌-◌, length}
use Rattle.gib_core.specs.Arena.{term_of}
use Rattle.gib_place.proofs.Found.{RunBehind}
use Rattle.gib_place.proofs.filling.line_of.Given as goal

abbrev pub invariant-bindings : goal.invariant-bindings
invariant-bindings l = RunBehind (term_of l.terms) l.bindings l.i

abbrev pub decreases-bindings : goal.decreases-bindings
decreases-bindings l = length l.bindings - l.i
