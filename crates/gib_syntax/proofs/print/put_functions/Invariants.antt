use Rattle.std.proofs.Common.{◌≡◌, ◌≤◌, length, map, drop}
use Rattle.gib_syntax.specs.GenericParts.{function_in}
use Rattle.gib_syntax.specs.Spelling.{spell_functions}
use Rattle.gib_syntax.proofs.print.put_functions.Given as goal

abbrev pub invariant-functions : goal.invariant-functions
invariant-functions l = (l.i ≤ length l.functions) × (l.out ≡ spell_functions (map (function_in l.exprs) (drop l.i l.functions)) l.fn.out)

abbrev pub decreases-functions : goal.decreases-functions
decreases-functions l = l.i
