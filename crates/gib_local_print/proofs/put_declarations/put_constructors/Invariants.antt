use Rattle.std.proofs.Common.{◌≡◌, ◌≤◌, length, map, drop}
use Rattle.gib_local_print.specs.Printing.{con_text}
use Rattle.gib_local_parse.specs.Texts.{spell_list, spell_con}
use Rattle.gib_local_print.proofs.put_declarations.put_constructors.Given as goal

abbrev pub invariant-constructors : goal.invariant-constructors
invariant-constructors l = (l.i ≤ length l.list) × (l.out ≡ spell_list spell_con (map (con_text l.types) (drop l.i l.list)) l.fn.out)

abbrev pub decreases-constructors : goal.decreases-constructors
decreases-constructors l = l.i
