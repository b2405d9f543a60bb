use Rattle.std.proofs.Common.{◌≡◌, length}
use Rattle.gib_mono.specs.Bare.{datas_names}
use Rattle.gib_mono.specs.Naming.{with_entries}
use Rattle.gib_mono.specs.Scenes.{names_in}
use Rattle.gib_mono.proofs.plain_names.put_datas.Given as goal

abbrev pub invariant-datas : goal.invariant-datas
invariant-datas l = with_entries (names_in l.names) (datas_names l.rest) ≡ with_entries (names_in l.fn.names) (datas_names l.datas)

abbrev pub decreases-datas : goal.decreases-datas
decreases-datas l = length l.rest
