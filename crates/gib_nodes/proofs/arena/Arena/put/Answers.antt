use Rattle.std.proofs.Common.{◌∙◌}
use Rattle.gib_nodes.proofs.Layers.{put_view}
use Rattle.gib_nodes.proofs.arena.Arena.put.Goals as goal

pub returns-clause-made : goal.returns-clause-made
returns-clause-made g c =
    put_view g.row.N.Denot g.N.Layered.Tree g.N.Layered.below g.N.Layered.nothing g.N.Layered.layer g.N.Layered.parts c.self.inside.nodes.items c.args.self.now c.push.new.self.items c.in-Ok.number c.args.node
    c.self.view_is c.self.invariant c.requires (c.in-Ok.ensures.1 ∙ c.len.ensures ∙ c.self.inside.nodes.ok.0) c.in_ok-push.ensures.items
