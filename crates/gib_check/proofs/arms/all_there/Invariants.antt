use Rattle.std.proofs.Common.{◌≡◌, length, map}
use Rattle.std.specs.List.{list_all}
use Rattle.gib_check.specs.Faults as rule
use Rattle.gib_check.specs.Judging.{arm_head}
use Rattle.gib_check.specs.NameViews.{generic_globals, row_in}
use Rattle.gib_check.proofs.arms.all_there.Given as goal

abbrev pub invariant-constructors : goal.invariant-constructors
invariant-constructors l =
    list_all (rule.is_there l.ty (rule.head_names (map arm_head l.arms))) (generic_globals l.named).rows
    ≡ list_all (rule.is_there l.ty (rule.head_names (map arm_head l.arms))) (map (row_in l.named) l.rest)

abbrev pub decreases-constructors : goal.decreases-constructors
decreases-constructors l = length l.rest
