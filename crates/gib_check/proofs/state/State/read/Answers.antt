use Rattle.gib_check.proofs.States.{put_keeps}
use Rattle.gib_check.proofs.state.State.read.Goals as goal

pub returns-clause-keeps : goal.returns-clause-keeps
returns-clause-keeps c =
    put_keeps c.args.self.now c.self.inside.types c.read.new.types c.self.inside.parts.items c.self.inside.scope c.self.inside.counts c.self.view_is c.read.ensures.grows c.self.invariant
