use Rattle.std.proofs.Common.{◌≤◌, length, take}
use Rattle.gib_types.specs.Types.{forms_of, forms_at, AreBelow}
use Rattle.gib_syntax.specs.Forms.{assign}
use Rattle.gib_mono.proofs.Read.{ReadSoFar}
use Rattle.gib_mono.proofs.reading.read.Given as goal

abbrev pub invariant-from_last : goal.invariant-from_last
invariant-from_last l =
    ReadSoFar l.fn.types l.types (assign l.variables (forms_at (forms_of l.fn.types) l.meant)) l.words (take l.at l.words) l.reading × AreBelow (length l.types) l.meant × (l.at ≤ length l.words)

abbrev pub decreases-from_last : goal.decreases-from_last
decreases-from_last l = l.at
