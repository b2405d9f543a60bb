use Rattle.gib_check.proofs.States.{put_keeps}
use Rattle.gib_check.proofs.state.State.put.Goals as goal

pub returns-clause-keeps : goal.returns-clause-keeps
returns-clause-keeps c =
    put_keeps c.args.self.now c.self.inside.types c.put_type.new.types c.self.inside.parts.items c.self.inside.scope c.self.inside.counts c.self.view_is c.put_type.ensures.grows c.self.invariant
