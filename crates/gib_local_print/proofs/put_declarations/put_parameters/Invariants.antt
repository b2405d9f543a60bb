use Rattle.std.proofs.Common.{◌≡◌, ◌≤◌, length, drop}
use Rattle.gib_local_print.specs.Printing.{parameters_text}
use Rattle.gib_local_parse.specs.Texts.{spell_list, spell_parameter}
use Rattle.gib_local_print.specs.LocatedText.{given}
use Rattle.gib_local_print.proofs.put_declarations.put_parameters.Given as goal

abbrev pub invariant-parameters : goal.invariant-parameters
invariant-parameters l = (l.i ≤ length l.parameters) × (l.out ≡ spell_list spell_parameter (parameters_text given l.types l.i (drop l.i l.parameters)) l.fn.out)

abbrev pub decreases-parameters : goal.decreases-parameters
decreases-parameters l = l.i
