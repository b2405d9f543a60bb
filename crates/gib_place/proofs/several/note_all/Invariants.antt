use Rattle.std.proofs.Common.{◌-◌, length, take}
use Rattle.gib_core.specs.PartTypes.{types_in}
use Rattle.gib_core.specs.Tree.{variables_from}
use Rattle.gib_place.specs.Late.{NotesAll}
use Rattle.gib_place.proofs.several.note_all.Given as goal

abbrev pub invariant-variables : goal.invariant-variables
invariant-variables l = NotesAll l.fn.times l.times (variables_from l.first.0 (take l.i (types_in l.types)))

abbrev pub decreases-variables : goal.decreases-variables
decreases-variables l = length (types_in l.types) - l.i
