use Rattle.gib_local_parse.proofs.Layers.{opens_view}
use Rattle.gib_local_parse.proofs.lines.Lines.node.Goals as goal

pub returns : goal.returns
returns c = opens_view c.self.inside.nodes c.args.self.now c.args.id.0 c.node.result.now c.self.view_is c.node.ensures.opens c.node.ensures.below
