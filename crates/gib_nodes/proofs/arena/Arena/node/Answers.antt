use Rattle.gib_nodes.proofs.Layers.{found_view, opens_view, below_view}
use Rattle.gib_nodes.proofs.arena.Arena.node.Goals as goal

pub returns-clause-found : goal.returns-clause-found
returns-clause-found g c =
    found_view g.row.N.Denot g.N.Layered.Tree g.N.Layered.below g.N.Layered.nothing g.N.Layered.layer g.N.Layered.parts c.self.inside.nodes.items c.args.self.now c.args.place c.index.result.now c.self.view_is c.requires c.index.ensures

pub returns-clause-opens : goal.returns-clause-opens
returns-clause-opens g c =
    opens_view g.row.N.Denot g.N.Layered.Tree g.N.Layered.below g.N.Layered.nothing g.N.Layered.layer g.N.Layered.parts c.self.inside.nodes.items c.args.self.now c.args.place c.index.result.now
    c.self.view_is c.self.invariant c.requires c.index.ensures

pub returns-clause-below : goal.returns-clause-below
returns-clause-below g c =
    below_view g.row.N.Denot g.N.Layered.Tree g.N.Layered.below g.N.Layered.nothing g.N.Layered.layer g.N.Layered.parts c.self.inside.nodes.items c.args.self.now c.args.place c.index.result.now
    c.self.view_is c.self.invariant c.requires c.index.ensures
