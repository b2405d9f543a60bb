use Rattle.std.proofs.Common.{◌≡◌, ◌≤◌, length, map, drop}
use Rattle.gib_local_print.specs.Printing.{operand}
use Rattle.gib_local_parse.specs.Grammar.{spell_operands}
use Rattle.gib_local_print.specs.LocatedText.{given}
use Rattle.gib_local_print.proofs.put.put_operands.Given as goal

abbrev pub invariant-atoms : goal.invariant-atoms
invariant-atoms l = (l.i ≤ length l.atoms) × (l.out ≡ spell_operands (map (operand given) (drop l.i l.atoms)) l.fn.out)

abbrev pub decreases-atoms : goal.decreases-atoms
decreases-atoms l = l.i
