use Rattle.std.proofs.Common.{◌≡◌, ◌≤◌, length, drop}
use Rattle.gib_core.specs.CoreText.{spell_variables}
use Rattle.gib_core.proofs.print.put_variables.Given as goal

abbrev pub invariant-variables : goal.invariant-variables
invariant-variables l = (l.i ≤ length l.variables) × (l.out ≡ spell_variables (drop l.i l.variables) l.fn.out)

abbrev pub decreases-variables : goal.decreases-variables
decreases-variables l = l.i
