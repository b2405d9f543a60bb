use Rattle.gib_core.proofs.Lining.{line_next}
use Rattle.gib_core.proofs.node.Terms.line.Goals as goal

pub bindings-preserved : goal.bindings-preserved
bindings-preserved c =
    line_next c.args.self.now c.args.id.0 c.bindings.last.0 c.bindings.bindings.items c.push.new.self.items c.bindings.node.now c.node-node-in-Then.result.now c.in-Then.binding c.in-Then.rest
    c.bindings.invariant c.in-Then.is c.in_ok-push.ensures.items c.node-node-in-Then.ensures
