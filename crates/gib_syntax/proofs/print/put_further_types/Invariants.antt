use Rattle.std.proofs.Common.{◌≡◌, ◌≤◌, length, map, drop}
use Rattle.gib_syntax.specs.Words.{type_in}
use Rattle.gib_syntax.specs.Spelling.{spell_further_types}
use Rattle.gib_syntax.proofs.print.put_further_types.Given as goal

abbrev pub invariant-types : goal.invariant-types
invariant-types l = (l.i ≤ length l.types) × (l.out ≡ spell_further_types (map (type_in l.exprs.words) (drop l.i l.types)) l.fn.out)

abbrev pub decreases-types : goal.decreases-types
decreases-types l = l.i
