use Rattle.gib_syntax.proofs.GenericLayers.{opens_view, within_view}
use Rattle.gib_syntax.proofs.generic.GenericExprs.node.Goals as goal

pub returns-clause-opens : goal.returns-clause-opens
returns-clause-opens c = opens_view (record { words = c.self.inside.words.items; nodes = c.self.inside.nodes }) c.args.self.now c.args.id.0 c.node.result.now c.self.view_is c.node.ensures.opens c.node.ensures.below

pub returns-clause-within : goal.returns-clause-within
returns-clause-within c = within_view (record { words = c.self.inside.words.items; nodes = c.self.inside.nodes }) c.args.self.now c.args.id.0 c.node.result.now c.self.view_is c.self.invariant c.node.ensures.found
