use Rattle.std.proofs.Common.{◌≡◌, ◌++◌, length}
use Rattle.gib_local.specs.Knowing.{all_kept}
use Rattle.gib_local.proofs.known.list_rows.Given as goal

abbrev pub invariant-datas : goal.invariant-datas
invariant-datas l = l.rows.items ++ all_kept l.types l.rest ≡ all_kept l.types l.datas

abbrev pub decreases-datas : goal.decreases-datas
decreases-datas l = length l.rest
