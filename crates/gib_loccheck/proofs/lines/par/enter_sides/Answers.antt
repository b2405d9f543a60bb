use Rattle.gib_core.specs.Arena.{side_from}
use Rattle.gib_loccheck.proofs.Walking.{binds_both}
use Rattle.gib_loccheck.proofs.lines.par.enter_sides.Goals as goal

pub returns-clause-binds : goal.returns-clause-binds
returns-clause-binds c =
    λ f. binds_both c.args.walk.now c.enter_side.new.walk c.enter_side-2.new.walk c.in_ok-inner.inner c.args.target.now c.in_ok-next.next (side_from f c.args.left) (side_from f c.args.right)
    (c.in_ok-inner.ensures.binds f) (c.in_ok-next.ensures.binds f)
