use Rattle.std.proofs.Common.{◌-◌, arith}
use Rattle.gib_gen.proofs.Growing.{node_written}
use Rattle.gib_gen.proofs.input.+trees.Goals as goal

-- src/input.rt
pub returns-clause-bytes : goal.returns-clause-bytes
returns-clause-bytes t c =
    let middle = c.in_ok-middle.ensures in
    node_written c.args.levels (c.args.levels - 1) c.args.x c.in_ok-middle.middle c.args.out.now.items _ _ _ (omega (arith, c.if-levels-eq0.false))
    middle.last c.in_ok-push.ensures.items middle.bytes c.in_ok-last.ensures.bytes
