use Rattle.std.proofs.Common.{◌∙◌, sym, arith}
use Rattle.gib_loccheck.proofs.Arms.{arms_next}
use Rattle.gib_loccheck.proofs.lines.case.are_arms.Goals as goal

pub branches-preserved : goal.branches-preserved
branches-preserved c = (
  arms_next c.args.types.now c.branches.next c.branches.more c.branch-item.result c.branches.left.now c.in-len1-up.len_at_least c.branch-item.is c.if-more-eq0.false (sym c.is_arm.ensures ∙ c.if-not-is_arm.false)
      ∙ c.branches.invariant.0,
  omega arith,
)
