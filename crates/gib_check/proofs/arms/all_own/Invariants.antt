use Rattle.std.proofs.Common.{◌≡◌, length, map}
use Rattle.std.specs.List.{list_all}
use Rattle.gib_check.specs.Faults as rule
use Rattle.gib_check.specs.Judging.{arm_head}
use Rattle.gib_check.specs.NameViews.{generic_globals}
use Rattle.gib_check.proofs.arms.all_own.Given as goal

abbrev pub invariant-arms : goal.invariant-arms
invariant-arms l =
    list_all (λ k. rule.is_of l.ty (rule.row_named (generic_globals l.named).rows k)) (rule.head_names (map arm_head l.arms))
    ≡ list_all (λ k. rule.is_of l.ty (rule.row_named (generic_globals l.named).rows k)) (rule.head_names (map arm_head l.rest))

abbrev pub decreases-arms : goal.decreases-arms
decreases-arms l = length l.rest
