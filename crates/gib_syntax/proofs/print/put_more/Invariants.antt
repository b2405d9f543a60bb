use Rattle.std.proofs.Common.{◌≡◌, ◌≤◌, length, map, drop}
use Rattle.gib_syntax.specs.GenericParts.{constructor_in}
use Rattle.gib_syntax.specs.Spelling.{spell_more}
use Rattle.gib_syntax.proofs.print.put_more.Given as goal

abbrev pub invariant-more : goal.invariant-more
invariant-more l = (l.i ≤ length l.constructors) × (l.out ≡ spell_more (map (constructor_in l.exprs.words) (drop l.i l.constructors)) l.fn.out)

abbrev pub decreases-more : goal.decreases-more
decreases-more l = l.i
