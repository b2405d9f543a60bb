use Rattle.std.proofs.Common.{Some, ap, ◌∙◌}
use Rattle.gib_core.proofs.Marks.{fork_parts, set_view}
use Rattle.gib_core.proofs.node.Terms.set_fork.Goals as goal

pub set-requires-clause-below : goal.set-requires-clause-below
set-requires-clause-below c = fork_parts c.node.result.now c.args.number c.in-Then.binding c.with_fork.result c.in-Then.rest c.args.fork c.node.ensures.below c.in-Then.is c.with_fork.ensures

pub returns : goal.returns
returns c =
    set_view c.self.inside.nodes c.args.self.now c.set.new.self c.args.number c.in-Then.binding c.with_fork.result c.in-Then.rest c.args.fork c.self.view_is c.requires
    (c.node.ensures.found ∙ ap Some c.in-Then.is) c.with_fork.ensures c.set.ensures.set c.set.ensures.arena
