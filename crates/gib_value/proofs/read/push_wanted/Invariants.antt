use Rattle.std.proofs.Common.{◌≡◌, ◌≤◌, ◌++◌, length, drop}
use Rattle.gib_value.specs.Reading.{fields_wanted}
use Rattle.gib_value.proofs.read.push_wanted.Given as goal

abbrev pub invariant-fields : goal.invariant-fields
invariant-fields l = (l.i ≤ length l.fields) × (l.wanted ≡ fields_wanted l.fn.con (drop l.i l.fields) ++ l.fn.wanted)

abbrev pub decreases-fields : goal.decreases-fields
decreases-fields l = l.i
