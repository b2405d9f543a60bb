use Rattle.gib_lex.proofs.Again as again
use Rattle.gib_lex.proofs.laws.read_again_in.Goals as goal

pub returns : goal.returns
returns c = again.read_again_in
