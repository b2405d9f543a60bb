use Rattle.std.proofs.Common.{rules}
use Rattle.gib_check.proofs.States.{put_met}
use Rattle.gib_check.proofs.state.State.put_parts.Goals as goal

pub returns-clause-met : goal.returns-clause-met
returns-clause-met c =
    put_met c.args.self.now c.self.inside.types c.self.inside.parts.items _ c.args.ids.now c.self.inside.scope c.self.inside.counts _ _ c.self.view_is (search rules) (search rules) (search rules) c.requires
