use Rattle.std.proofs.Common.{◌≡◌, ◌≤◌, length, map, drop}
use Rattle.gib_syntax.specs.GenericParts.{data_in}
use Rattle.gib_syntax.specs.Spelling.{spell_datas}
use Rattle.gib_syntax.proofs.print.put_datas.Given as goal

abbrev pub invariant-datas : goal.invariant-datas
invariant-datas l = (l.i ≤ length l.declarations) × (l.out ≡ spell_datas (map (data_in l.exprs.words) (drop l.i l.declarations)) l.fn.out)

abbrev pub decreases-datas : goal.decreases-datas
decreases-datas l = l.i
