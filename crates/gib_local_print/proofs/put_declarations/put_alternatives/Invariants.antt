use Rattle.std.proofs.Common.{◌≡◌, ◌≤◌, ◌+◌, ◌-◌, map}
use Rattle.gib_types.specs.Table.{numbers_from}
use Rattle.gib_local_parse.specs.Texts.{spell_list, spell_alternative}
use Rattle.gib_local_print.specs.LocatedText.{constructor_of}
use Rattle.gib_local_print.proofs.put_declarations.put_alternatives.Given as goal

abbrev pub invariant-alternatives : goal.invariant-alternatives
invariant-alternatives l = (l.left ≤ l.count) × (l.out ≡ spell_list spell_alternative (map (constructor_of l.types) (numbers_from (l.first + l.left) (l.count - l.left))) l.fn.out)

abbrev pub decreases-alternatives : goal.decreases-alternatives
decreases-alternatives l = l.left
