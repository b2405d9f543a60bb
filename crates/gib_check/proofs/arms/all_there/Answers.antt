use Rattle.std.proofs.Common.{map}
use Rattle.gib_check.specs.Faults as rule
use Rattle.gib_check.specs.Judging.{arm_head}
use Rattle.gib_check.specs.NameViews.{row_in}
use Rattle.gib_check.proofs.RowLists.{row_failed, row_passed}
use Rattle.gib_check.proofs.arms.all_there.Goals as goal

pub returns-then-not-is_there : goal.returns-then-not-is_there
returns-then-not-is_there c =
    row_failed (rule.is_there c.args.ty (rule.head_names (map arm_head c.args.arms.now))) (row_in c.args.named.now) c.constructors.rest.now _ c.is_there.result _ c.in-len1-up.len_at_least (c.is_there.ensures c.args.named.now) c.if-not-is_there.true c.constructors.invariant

pub constructors-preserved : goal.constructors-preserved
constructors-preserved c =
    row_passed (rule.is_there c.args.ty (rule.head_names (map arm_head c.args.arms.now))) (row_in c.args.named.now) c.constructors.rest.now _ c.is_there.result _ c.in-len1-up.len_at_least (c.is_there.ensures c.args.named.now) c.if-not-is_there.false c.constructors.invariant
