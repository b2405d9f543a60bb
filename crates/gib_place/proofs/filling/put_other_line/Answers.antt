use Rattle.gib_place.proofs.Making.{other_passed}
use Rattle.gib_place.proofs.filling.put_other_line.Goals as goal

pub returns : goal.returns
returns c = other_passed c.args.scratch.now.terms c.put_line.new.self c.args.bindings.items c.put_line.result c.args.end c.requires.other c.put_line.ensures.grows c.put_line.ensures.inside c.put_line.ensures.term
