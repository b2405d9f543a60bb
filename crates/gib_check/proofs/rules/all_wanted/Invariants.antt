use Rattle.std.proofs.Common.{◌≡◌, length}
use Rattle.gib_types.specs.Types.{AreBelow}
use Rattle.gib_check.specs.Faults as rule
use Rattle.gib_check.specs.Judging.{forms, listed, parts_in, ArePartsMet}
use Rattle.gib_check.proofs.rules.all_wanted.Given as goal

abbrev pub invariant-parts : goal.invariant-parts
invariant-parts l =
    (rule.all_wanted (parts_in l.state l.parts) (listed (forms l.state) l.due) ≡ rule.all_wanted (parts_in l.state l.rest) (listed (forms l.state) l.ids)) × ArePartsMet l.state l.rest × AreBelow (length l.state.types) l.ids

abbrev pub decreases-parts : goal.decreases-parts
decreases-parts l = length l.rest
