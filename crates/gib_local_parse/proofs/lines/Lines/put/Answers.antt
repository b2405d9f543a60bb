use Rattle.gib_local_parse.proofs.Layers.{put_view}
use Rattle.gib_local_parse.proofs.lines.Lines.put.Goals as goal

pub returns-clause-made : goal.returns-clause-made
returns-clause-made c = put_view c.self.inside.nodes c.args.self.now c.put.new.self c.in_ok-number.number c.args.node c.self.view_is c.in_ok-number.ensures.made
