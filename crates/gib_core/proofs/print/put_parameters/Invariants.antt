use Rattle.std.proofs.Common.{◌≡◌, ◌≤◌, length, drop}
use Rattle.gib_core.specs.CoreText.{spell_parameters}
use Rattle.gib_core.proofs.print.put_parameters.Given as goal

abbrev pub invariant-parameters : goal.invariant-parameters
invariant-parameters l = (l.i ≤ length l.parameters) × (l.out ≡ spell_parameters l.i (drop l.i l.parameters) l.fn.out)

abbrev pub decreases-parameters : goal.decreases-parameters
decreases-parameters l = l.i
