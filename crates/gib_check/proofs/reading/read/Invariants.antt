use Rattle.std.proofs.Common.{◌≤◌, length, take}
use Rattle.gib_types.specs.Types.{forms_of}
use Rattle.gib_check.specs.Judging.{meant_by, IsMeaningBelow}
use Rattle.gib_check.proofs.Read.{ReadSoFar}
use Rattle.gib_check.proofs.reading.read.Given as goal

abbrev pub invariant-from_last : goal.invariant-from_last
invariant-from_last l =
    ReadSoFar l.fn.types l.types (meant_by (forms_of l.fn.types) l.meaning) l.words (take l.at l.words) l.stack × IsMeaningBelow (length l.types) l.meaning × (l.at ≤ length l.words)

abbrev pub decreases-from_last : goal.decreases-from_last
decreases-from_last l = l.at
