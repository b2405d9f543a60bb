use Rattle.std.proofs.Common.{ap}
use Rattle.gib_place.specs.Late.{side_variables, binding_variables}
use Rattle.gib_place.proofs.Timing.{binds_passed}
use Rattle.gib_place.proofs.times.bind.Goals as goal

pub returns-in_ok-note_side-in-Par : goal.returns-in_ok-note_side-in-Par
returns-in_ok-note_side-in-Par c =
    binds_passed c.note_side-in-Par-2.result c.args.times.now c.tick.new.self c.note_side-in-Par.new.times c.note_side-in-Par-2.new.times c.args.binding (side_variables c.in-Par.left) (side_variables c.in-Par.right) c.in_ok-tick.ensures c.in_ok-note_side-in-Par.ensures c.note_side-in-Par-2.ensures
    (ap binding_variables c.in-Par.is)
