use Rattle.std.proofs.Common.{◌≡◌, length}
use Rattle.gib_types.specs.Types.{forms_of, AreBelow}
use Rattle.gib_check.specs.Faults as rule
use Rattle.gib_check.specs.Judging.{listed}
use Rattle.gib_check.proofs.rules.are_same.Given as goal

abbrev pub invariant-parts : goal.invariant-parts
invariant-parts l =
    (rule.same_lists (listed (forms_of l.types) l.left) (listed (forms_of l.types) l.right) ≡ rule.same_lists (listed (forms_of l.types) l.lefts) (listed (forms_of l.types) l.rights)) × AreBelow (length l.types) l.lefts × AreBelow (length l.types) l.rights

abbrev pub decreases-parts : goal.decreases-parts
decreases-parts l = length l.lefts
