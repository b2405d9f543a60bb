use Rattle.std.proofs.Common.{◌≡◌, ◌≤◌, length, drop, map}
use Rattle.gib_core.specs.Arena.{term_of}
use Rattle.gib_core.specs.Parts.{function_term}
use Rattle.gib_local_print.specs.Printing.{function_text}
use Rattle.gib_local_parse.specs.Texts.{spell_list, spell_function}
use Rattle.gib_local_print.specs.LocatedText.{given}
use Rattle.gib_local_print.proofs.print.put_functions.Given as goal

abbrev pub invariant-functions : goal.invariant-functions
invariant-functions l =
    (l.i ≤ length l.functions) × (l.out ≡ spell_list spell_function (map (function_text given l.from.types.now) (map (function_term (term_of l.from.terms.now)) (drop l.i l.functions))) l.fn.out)

abbrev pub decreases-functions : goal.decreases-functions
decreases-functions l = l.i
