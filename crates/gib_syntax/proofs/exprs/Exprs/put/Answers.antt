use Rattle.gib_syntax.proofs.Layers.{put_view}
use Rattle.gib_syntax.proofs.exprs.Exprs.put.Goals as goal

pub returns-clause-made : goal.returns-clause-made
returns-clause-made c = put_view c.self.inside.nodes c.args.self.now c.put.new.self c.in_ok-number.number c.args.node c.self.view_is c.in_ok-number.ensures.made
