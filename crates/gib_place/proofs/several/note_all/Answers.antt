use Rattle.std.proofs.Common.{arith}
use Rattle.gib_core.specs.PartTypes.{types_in}
use Rattle.gib_place.proofs.Neighbours.{noted_next}
use Rattle.gib_place.proofs.several.note_all.Goals as goal

pub variables-preserved : goal.variables-preserved
variables-preserved c = noted_next (types_in c.args.types) c.args.first.0 c.variables.i c.in_ok-x.x c.args.times.now c.variables.times c.note.new.self (let e = c.len.ensures in omega arith) c.in_ok-x.ensures c.variables.invariant c.in_ok-note.ensures
