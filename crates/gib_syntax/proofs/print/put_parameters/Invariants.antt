use Rattle.std.proofs.Common.{◌≡◌, ◌≤◌, length, map, drop}
use Rattle.gib_syntax.specs.GenericParts.{parameter_in}
use Rattle.gib_syntax.specs.Spelling.{spell_parameters}
use Rattle.gib_syntax.proofs.print.put_parameters.Given as goal

abbrev pub invariant-parameters : goal.invariant-parameters
invariant-parameters l = (l.i ≤ length l.parameters) × (l.out ≡ spell_parameters (map (parameter_in l.exprs.words) (drop l.i l.parameters)) l.fn.out)

abbrev pub decreases-parameters : goal.decreases-parameters
decreases-parameters l = l.i
