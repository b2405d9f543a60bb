use Rattle.gib_plain.proofs.Names.{found_turn}
use Rattle.gib_plain.proofs.lookup.part_in_turn.Goals as goal

pub returns : goal.returns
returns c = λ f. found_turn f c.args.types.now c.args.parts.now c.args.at c.argument_at.result c.argument_at.ensures
