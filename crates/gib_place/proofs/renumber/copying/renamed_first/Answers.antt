use Rattle.std.proofs.Common.{◌+◌, arith}
use Rattle.gib_core.specs.PartTypes.{types_in}
use Rattle.gib_place.specs.Numbering.{place_in}
use Rattle.gib_place.proofs.Neighbours.{renamed_all}
use Rattle.gib_place.proofs.renumber.copying.renamed_first.Goals as goal

pub returns : goal.returns
returns c = renamed_all (place_in c.args.numbers.now) (types_in c.args.types) c.in_ok-renamed.renamed.0 c.args.first.0 c.variables.i (let e = c.len.ensures in omega arith) c.variables.invariant
