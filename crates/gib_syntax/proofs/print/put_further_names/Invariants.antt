use Rattle.std.proofs.Common.{◌≡◌, ◌≤◌, length, drop}
use Rattle.gib_syntax.specs.Spelling.{spell_further_names}
use Rattle.gib_syntax.proofs.print.put_further_names.Given as goal

abbrev pub invariant-names : goal.invariant-names
invariant-names l = (l.i ≤ length l.names) × (l.out ≡ spell_further_names (drop l.i l.names) l.fn.out)

abbrev pub decreases-names : goal.decreases-names
decreases-names l = l.i
