use Rattle.std.proofs.Common.{◌≡◌, ◌++◌, length}
use Rattle.gib_check.specs.NameViews.{all_rows}
use Rattle.gib_check.proofs.named.list_rows.Given as goal

abbrev pub invariant-datas : goal.invariant-datas
invariant-datas l = l.rows.items ++ all_rows l.program.exprs.words l.place l.rest ≡ all_rows l.program.exprs.words 0 l.program.datas

abbrev pub decreases-datas : goal.decreases-datas
decreases-datas l = length l.rest
