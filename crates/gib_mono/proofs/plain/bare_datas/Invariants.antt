use Rattle.std.proofs.Common.{◌≡◌, ◌++◌, length, map}
use Rattle.gib_syntax.specs.GenericParts.{data_in}
use Rattle.gib_syntax.specs.Parts.{data_tree}
use Rattle.gib_mono.specs.Bare.{bare_data}
use Rattle.gib_mono.proofs.plain.bare_datas.Given as goal

abbrev pub invariant-datas : goal.invariant-datas
invariant-datas l = map data_tree l.made.items ++ map bare_data (map (data_in l.exprs.words) l.rest) ≡ map bare_data (map (data_in l.exprs.words) l.datas)

abbrev pub decreases-datas : goal.decreases-datas
decreases-datas l = length l.rest
