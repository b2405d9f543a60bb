use Rattle.gib_types.proofs.Owners.{tag_there, tag_back}
use Rattle.gib_types.proofs.table.TypeTable.tags_invert.Goals as goal

pub returns : goal.returns
returns c = record {
  there = λ con lt. tag_there c.args.self.now con lt;
  back = λ ty tag con e. tag_back c.args.self.now ty tag con e;
}
