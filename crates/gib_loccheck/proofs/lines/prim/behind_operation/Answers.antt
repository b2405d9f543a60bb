use Rattle.std.proofs.Common.{rules}
use Rattle.gib_loccheck.proofs.Judges.{stays_same, stays_passes}
use Rattle.gib_loccheck.proofs.Walking.{binds_prim}
use Rattle.gib_loccheck.specs.Judging.{one}
use Rattle.gib_loccheck.specs.Views.{setting_of}
use Rattle.gib_core.specs.Met.{PrimLine}
use Rattle.gib_loccheck.proofs.lines.prim.behind_operation.Goals as goal

pub returns-in_err-judge_prim : goal.returns-in_err-judge_prim
returns-in_err-judge_prim c = λ core. let h = c.in_err-judge_prim.ensures core in search rules

pub returns : goal.returns
returns c =
    λ core. (
      stays_passes core c.args.walk.now c.args.walk.now c.judge_prim.new.walk c.enter.new.walk (one (setting_of c.args.walk.now c.args.target.now) (PrimLine c.args.variable c.args.operator c.args.left c.args.right))
          (stays_same c.args.walk.now) (c.in_ok-judge_prim.ensures core).0 c.in_ok-enter.ensures.stays,
      binds_prim c.args.walk.now c.judge_prim.new.walk c.enter.new.walk c.args.target.now c.in_ok-next.next c.args.variable c.args.operator c.args.left c.args.right (c.in_ok-judge_prim.ensures core).1 c.in_ok-enter.ensures c.in_ok-next.ensures,
    )
