use Rattle.gib_core.proofs.Layers.{opens_view}
use Rattle.gib_core.proofs.node.Terms.node_at.Goals as goal

pub returns : goal.returns
returns c = opens_view c.self.inside.nodes c.args.self.now c.args.place c.node.result.now c.self.view_is c.node.ensures.opens c.node.ensures.below
