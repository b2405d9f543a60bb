use Rattle.gib_lex.proofs.Again as again
use Rattle.gib_lex.proofs.laws.read_again.Goals as goal

pub returns : goal.returns
returns c = again.read_again
