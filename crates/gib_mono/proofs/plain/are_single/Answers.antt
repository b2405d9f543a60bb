use Rattle.std.proofs.Common.{arith, refl}
use Rattle.gib_mono.proofs.Baring.{single_next, single_none}
use Rattle.gib_mono.proofs.plain.are_single.Goals as goal

pub nodes-init : goal.nodes-init
nodes-init c = single_none c.args.exprs.now

pub nodes-preserved : goal.nodes-preserved
nodes-preserved c =
    single_next c.args.exprs.now c.nodes.number c.in-Some.next c.node.result.now c.nodes.invariant (omega (arith, c.in-Some.ensures)) c.node.ensures.opens.0 c.node.ensures.opens.1 (c.if-not-is_single.ensures refl)
