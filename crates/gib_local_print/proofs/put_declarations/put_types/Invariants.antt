use Rattle.std.proofs.Common.{◌≡◌, ◌≤◌, length, map, drop}
use Rattle.gib_local_print.specs.Printing.{type_text}
use Rattle.gib_local_parse.specs.Texts.{spell_list, spell_type}
use Rattle.gib_local_print.proofs.put_declarations.put_types.Given as goal

abbrev pub invariant-fields : goal.invariant-fields
invariant-fields l = (l.i ≤ length l.fields) × (l.out ≡ spell_list spell_type (map (type_text l.types) (drop l.i l.fields)) l.fn.out)

abbrev pub decreases-fields : goal.decreases-fields
decreases-fields l = l.i
