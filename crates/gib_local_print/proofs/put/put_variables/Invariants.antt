use Rattle.std.proofs.Common.{◌≡◌, ◌≤◌, length, map, drop}
use Rattle.gib_local_print.specs.Printing.{named}
use Rattle.gib_local_parse.specs.Grammar.{spell_names}
use Rattle.gib_local_print.specs.LocatedText.{given}
use Rattle.gib_local_print.proofs.put.put_variables.Given as goal

abbrev pub invariant-variables : goal.invariant-variables
invariant-variables l = (l.i ≤ length l.variables) × (l.out ≡ spell_names (map (named given) (drop l.i l.variables)) l.fn.out)

abbrev pub decreases-variables : goal.decreases-variables
decreases-variables l = l.i
